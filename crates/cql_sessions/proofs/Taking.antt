-- What sessions leave, taken apart.
use Rattle.std.proofs.Common.{◌≡◌, ℕ, ◌+◌, ◌++◌, ◌∷◌, [], List, ◌∙◌, ap, sym, refl, subst, map, append-nil, arith}
use Rattle.std.specs.Prelude.{Option, None, Some, is_some, sum_by, if◌then◌else◌}
use Rattle.std.specs.List.{filter_map, cons_option}
use Rattle.std.proofs.Math.Nat.{zero-add}
use Rattle.std.proofs.lemmas.List.Elements.{filter_map-append}
use Rattle.std.proofs.lemmas.List.Sums.{sum_by-cons}
use Rattle.cql_tenants.specs.declared.tenants.Tenant.{Tenant}
use Rattle.cql_hall.specs.declared.hall.Seat.{Seat}
use Rattle.cql_hall.specs.declared.hall.Receipt.{Receipt}
use Rattle.cql_hall.specs.Audit.{Heard, heard, in_order, placed}
use Rattle.cql_hall.specs.Laws.{placed as placed_heard}
use Rattle.cql_hall.proofs.Calls.{has_each_call_once}
use Rattle.cql_sessions.specs.Tallies.{counted_by}
use Rattle.cql_sessions.specs.Agreed.{Agreed, AgreedOnce}
use Rattle.cql_sessions.specs.declared.ending.Ending.{Ending}

pub filter_map_more : {X Y : Type 0} (h : X → Option Y) (xs : List X) (x : X) (y : Y) → h x ≡ Some y → filter_map h (xs ++ x ∷ []) ≡ filter_map h xs ++ y ∷ []
filter_map_more h xs x y is = filter_map-append h xs (x ∷ []) ∙ ap (λ o. filter_map h xs ++ cons_option o []) is

pub filter_map_same : {X Y : Type 0} (h : X → Option Y) (xs : List X) (x : X) → h x ≡ None → filter_map h (xs ++ x ∷ []) ≡ filter_map h xs
filter_map_same h xs x is = filter_map-append h xs (x ∷ []) ∙ ap (λ o. filter_map h xs ++ cons_option o []) is ∙ append-nil (filter_map h xs)

placed_list : (caller : ℕ) (rs : List Receipt) (rest : List Heard) → placed_heard (map (heard caller) rs ++ rest) ≡ placed rs + placed_heard rest
placed_list caller [] rest = sym (zero-add (placed_heard rest))
placed_list caller (r ∷ rs) rest =
    let more = placed_list caller rs rest in
    let one = sum_by-cons (λ r. if is_some r.place then 1 else 0) r rs in
    omega (arith, more, one)

counted_more : (o : Option Seat) (ss : List Seat) → sum_by (λ s. s.count) (cons_option o ss) ≡ counted_by o + sum_by (λ s. s.count) ss
counted_more None ss = sym (zero-add (sum_by (λ s. s.count) ss))
counted_more (Some s) ss = sum_by-cons (λ s. s.count) s ss

-- receipts with a place are those of the lists
placed_heard_in : (caller : ℕ) (ends : List Ending) → placed_heard (in_order caller (map (λ e. e.receipts.items) ends)) ≡ sum_by (λ e. placed e.receipts.items) ends
placed_heard_in caller [] = refl
placed_heard_in caller (e ∷ es) =
    let rest = in_order (caller + 1) (map (λ e. e.receipts.items) es) in
    let list = placed_list caller e.receipts.items rest in
    let more = placed_heard_in (caller + 1) es in
    let one = sum_by-cons (λ e. placed e.receipts.items) e es in
    omega (arith, list, more, one)

-- receipts with a place, counted list by list
pub placed_in_lists : (ends : List Ending) → sum_by (λ list. placed list.items) (map (λ e. e.receipts) ends) ≡ sum_by (λ e. placed e.receipts.items) ends
placed_in_lists [] = refl
placed_in_lists (e ∷ es) =
    sum_by-cons (λ list. placed list.items) e.receipts (map (λ e. e.receipts) es)
    ∙ ap (λ n. placed e.receipts.items + n) (placed_in_lists es)
    ∙ sym (sum_by-cons (λ e. placed e.receipts.items) e es)

-- there are as many as the seats have counted
pub placed_as_counted : (ends : List Ending) → sum_by (λ e. placed e.receipts.items) ends ≡ sum_by (λ s. s.count) (filter_map (λ e. e.seat) ends)
placed_as_counted [] = refl
placed_as_counted (e ∷ es) =
    let list = sum_by-cons (λ e. placed e.receipts.items) e es in
    let more = placed_as_counted es in
    let seats = counted_more e.seat (filter_map (λ e. e.seat) es) in
    let one = e.counted in
    omega (arith, list, more, seats, one)

pub lists_of : (ends : List Ending) → map (λ list. list.items) (map (λ e. e.receipts) ends) ≡ map (λ e. e.receipts.items) ends
lists_of [] = refl
lists_of (e ∷ es) = ap (λ l. e.receipts.items ∷ l) (lists_of es)

-- where receipts agree with a journal of as many entries as the seats have counted, each entry is one receipt's call
pub agreed_once : (table : List Tenant) (ends : List Ending) (lists : List (List Receipt)) (seats : List Seat) (many : ℕ) → lists ≡ map (λ e. e.receipts.items) ends
    → seats ≡ filter_map (λ e. e.seat) ends → Agreed table (in_order 0 lists) many → sum_by (λ s. s.count) seats ≡ many → AgreedOnce table (in_order 0 (map (λ e. e.receipts.items) ends))
agreed_once table ends lists seats many same from agreed counted =
    let hs = in_order 0 (map (λ e. e.receipts.items) ends) in
    let a = subst (λ l. Agreed table (in_order 0 l) many) same agreed in
    let all = placed_heard_in 0 ends ∙ placed_as_counted ends ∙ ap (sum_by (λ s. s.count)) (sym from) ∙ counted ∙ sym a.entries in
    record { journal = a.journal; opens = a.opens; legal = a.legal; agree = a.agree; once = has_each_call_once a.journal hs a.legal a.agree all }
