-- What calls say of a stub is what the stub holds.
use Rattle.std.proofs.Common.{◌≡◌, ◌≢◌, ℕ, ◌+◌, ◌-◌, ◌≤◌, Bool, true, false, List, [], ◌∷◌, ◌++◌, take, drop, Option, Some, None, cond, nat_lt, refl, sym, ap, ◌∙◌, arith}
use Rattle.std.specs.Prelude.{◌==◌, ◌||◌}
use Rattle.std.proofs.Math.Seq.{take-nil, drop-nil}
use Rattle.std.proofs.lemmas.Bool.Decides.{nat_tests}
use Rattle.std.proofs.lemmas.List.{drop-append-le, take-append-le}
use Rattle.cql_value.specs.Element.{Element}
use Rattle.cql_window.specs.declared.window.Window.{Window}
use Rattle.cql_window.specs.declared.window.Window.TheVariants.{Range, Rows, All as all, Parts}
use Rattle.cql_window.specs.Window.{front_len, kept, content, beyond, charge}
use Rattle.cql_window.proofs.Ends.{front_le, front_more}
use Rattle.cql_window.proofs.Laws.{content_later, beyond_later, charge_law}
use Rattle.cql_store.proofs.Keeps.{slot_map}
use Rattle.cql_store.specs.Calls.{Call, Attach, Append, Advance, Detach, Makes, Make, Said, said_by, said, held_by, held_if_any, IsStubLaw}
use Rattle.cql_store.specs.Held.{Held, Stubs, stub_of, fed, fed_at, advanced}

-- ---- windows over no row, and over one row more

pub kept_none : (w : Window) (c : ℕ) → kept w c [] ≡ []
kept_none (Range len slide) c = refl
kept_none (Rows count slide) c = drop-nil (0 - count)
kept_none all c = refl
kept_none (Parts columns count) c = refl

content_none : (w : Window) (c : ℕ) → content w c [] [] ≡ []
content_none w c = ap (kept w c) (take-nil (front_len w c [])) ∙ kept_none w c

beyond_none : (w : Window) (c : ℕ) → beyond w c [] ≡ []
beyond_none w c = drop-nil (front_len w c [])

content_more : (w : Window) (c : ℕ) (xs : List Element) (x : Element) → c ≤ x.at → content w c [] (xs ++ x ∷ []) ≡ content w c [] xs
content_more w c xs x le =
    ap (kept w c) (ap (λ n. take n (xs ++ x ∷ [])) (front_more w c xs x le) ∙ take-append-le (front_len w c xs) xs (x ∷ []) (front_le w c xs))

beyond_more : (w : Window) (c : ℕ) (xs : List Element) (x : Element) → c ≤ x.at → beyond w c (xs ++ x ∷ []) ≡ beyond w c xs ++ x ∷ []
beyond_more w c xs x le = ap (λ n. drop n (xs ++ x ∷ [])) (front_more w c xs x le) ∙ drop-append-le (front_len w c xs) xs (x ∷ []) (front_le w c xs)

-- ---- one stub

-- what a stub holds of the elements since it was attached
abbrev held_of : Window → ℕ → ℕ → List Element → Bool → Held
held_of w c hold xs o = record { window = w; cursor = c; hold = hold; content = cond o [] (content w c [] xs); unseen = cond o [] (beyond w c xs); overrun = o }

opened_said : (w : Window) (c hold : ℕ) → record { window = w; cursor = c; hold = hold; content = []; unseen = []; overrun = false } ≡ held_of w c hold [] false
opened_said w c hold = λ i. record { window = w; cursor = c; hold = hold; content = sym (content_none w c) i; unseen = sym (beyond_none w c) i; overrun = false }

live_fed : (w : Window) (c hold : ℕ) (xs : List Element) (x : Element) → c ≤ x.at → (b : Bool) → nat_lt (charge w c [] xs) hold ≡ b
    → cond {A = Held} b (record { window = w; cursor = c; hold = hold; content = content w c [] xs; unseen = beyond w c xs ++ x ∷ []; overrun = false }) (record { window = w; cursor = c; hold = hold; content = []; unseen = []; overrun = true })
    ≡ held_of w c hold (xs ++ x ∷ []) (nat_lt hold (charge w c [] (xs ++ x ∷ [])))
live_fed w c hold xs x le true is =
    let more : charge w c [] (xs ++ x ∷ []) ≡ charge w c [] xs + 1 = (charge_law w c [] xs).more x le in
    let off : nat_lt hold (charge w c [] (xs ++ x ∷ [])) ≡ false = grind (arith, nat_tests, is, more) in
    λ i. record { window = w; cursor = c; hold = hold; content = cond (sym off i) [] (sym (content_more w c xs x le) i); unseen = cond (sym off i) [] (sym (beyond_more w c xs x le) i); overrun = sym off i }
live_fed w c hold xs x le false is =
    let more : charge w c [] (xs ++ x ∷ []) ≡ charge w c [] xs + 1 = (charge_law w c [] xs).more x le in
    let on : nat_lt hold (charge w c [] (xs ++ x ∷ [])) ≡ true = grind (arith, nat_tests, is, more) in
    λ i. record { window = w; cursor = c; hold = hold; content = cond (sym on i) [] (content w c [] (xs ++ x ∷ [])); unseen = cond (sym on i) [] (beyond w c (xs ++ x ∷ [])); overrun = sym on i }

fed_said : (w : Window) (c hold : ℕ) (xs : List Element) (x : Element) (o : Bool) → (o ≡ false → c ≤ x.at) → fed x (held_of w c hold xs o) ≡ held_of w c hold (xs ++ x ∷ []) (o || nat_lt hold (charge w c [] (xs ++ x ∷ [])))
fed_said w c hold xs x true le = refl
fed_said w c hold xs x false le = live_fed w c hold xs x (le refl) (nat_lt (charge w c [] xs) hold) refl

advanced_said : (w : Window) (c to hold : ℕ) (xs : List Element) (o : Bool) → o ≡ false → c ≤ to → advanced to (held_of w c hold xs o) ≡ held_of w to hold xs o
advanced_said w c to hold xs true live le = absurd cc
advanced_said w c to hold xs false live le = λ i. record { window = w; cursor = to; hold = hold; content = content_later w c to [] xs le i; unseen = beyond_later w c to xs le i; overrun = false }

-- ---- one call

is_at : (a b : ℕ) → (a == b) ≡ true → a ≡ b
is_at a b is = grind (arith, nat_tests, is)

is_not_at : (a b : ℕ) → (a == b) ≡ false → b ≢ a
is_not_at a b is same = absurd (grind (arith, nat_tests, is, same))

attach_said : (old new : Stubs) (given id : ℕ) (window : Window) (base hold : ℕ) (before : Option Said) → stub_of old id ≡ held_if_any before → Makes old (Attach given window base hold) new → (b : Bool) → (given == id) ≡ b
    → stub_of new id ≡ held_if_any (cond b (Some (record { window = window; cursor = base; hold = hold; elements = []; overrun = false })) before)
attach_said old new given id window base hold before is made true same =
    ap (stub_of new) (sym (is_at given id same)) ∙ made.1.changed ∙ ap (λ (h : Held). Some h) (opened_said window base hold)
attach_said old new given id window base hold before is made false differs = made.1.others id (is_not_at given id differs) ∙ is

append_said : (old new : Stubs) (id : ℕ) (x : Element) (before : Option Said) → stub_of old id ≡ held_if_any before → Makes old (Append x) new → stub_of new id ≡ held_if_any (said_by id before (Append x))
append_said old new id x None is made = ap (λ l. stub_of l id) made.1 ∙ slot_map (fed_at x) old id refl ∙ ap (fed_at x) is
append_said old new id x (Some s) is made =
    ap (λ l. stub_of l id) made.1 ∙ slot_map (fed_at x) old id refl ∙ ap (fed_at x) is
    ∙ ap (λ (h : Held). Some h) (fed_said s.window s.cursor s.hold s.elements x s.overrun (λ live. (made.0.takes id (held_by s) (record { held = is; live = live })).ahead))

some_same : (a b : Held) → Some a ≡ Some b → a ≡ b
some_same a b is = cc

advance_said : (old new : Stubs) (given to id : ℕ) (s : Said) → stub_of old id ≡ Some (held_by s) → Makes old (Advance given to) new → (b : Bool) → (given == id) ≡ b → stub_of new id ≡ held_if_any (cond b (Some (record s { cursor = to })) (Some s))
advance_said old new given to id s is made true same =
    let at : given ≡ id = is_at given id same in
    let this : made.0 ≡ held_by s = some_same made.0 (held_by s) (sym made.1 ∙ ap (stub_of old) at ∙ is) in
    let live : s.overrun ≡ false = sym (ap (λ (h : Held). h.overrun) this) ∙ made.2.live in
    let later : s.cursor ≤ to = omega (arith, made.2.later, ap (λ (h : Held). h.cursor) this) in
    ap (stub_of new) (sym at) ∙ made.3.changed ∙ ap (λ h. Some (advanced to h)) this
    ∙ ap (λ (h : Held). Some h) (advanced_said s.window s.cursor to s.hold s.elements s.overrun live later)
advance_said old new given to id s is made false differs = made.3.others id (is_not_at given id differs) ∙ is

advance_none : (old new : Stubs) (given to id : ℕ) → stub_of old id ≡ None → Makes old (Advance given to) new → (b : Bool) → (given == id) ≡ b → stub_of new id ≡ None
advance_none old new given to id is made true same =
    absurd (let none : stub_of old given ≡ None = ap (stub_of old) (is_at given id same) ∙ is in let some = made.1 in cc)
advance_none old new given to id is made false differs = made.3.others id (is_not_at given id differs) ∙ is

detach_said : (old new : Stubs) (given id : ℕ) (before : Option Said) → stub_of old id ≡ held_if_any before → Makes old (Detach given) new → (b : Bool) → (given == id) ≡ b → stub_of new id ≡ held_if_any (cond b None before)
detach_said old new given id before is made true same = ap (stub_of new) (sym (is_at given id same)) ∙ made.changed
detach_said old new given id before is made false differs = made.others id (is_not_at given id differs) ∙ is

call_said : (call : Call) (old new : Stubs) (id : ℕ) (before : Option Said) → stub_of old id ≡ held_if_any before → Makes old call new → stub_of new id ≡ held_if_any (said_by id before call)
call_said (Attach given window base hold) old new id before is made = attach_said old new given id window base hold before is made (given == id) refl
call_said (Append x) old new id before is made = append_said old new id x before is made
call_said (Advance given to) old new id None is made = advance_none old new given to id is made (given == id) refl
call_said (Advance given to) old new id (Some s) is made = advance_said old new given to id s is made (given == id) refl
call_said (Detach given) old new id before is made = detach_said old new given id before is made (given == id) refl

-- ---- all calls

calls_said : (calls : List Call) (old new : Stubs) (id : ℕ) (before : Option Said) → stub_of old id ≡ held_if_any before → Make old calls new → stub_of new id ≡ held_if_any (said id before calls)
calls_said [] old new id before is made = ap (λ l. stub_of l id) made ∙ is
calls_said (call ∷ calls) old new id before is made = calls_said calls made.0 new id (said_by id before call) (call_said call old made.0 id before is made.1) made.2

pub stub_law : IsStubLaw
stub_law calls stubs made id = calls_said calls [] stubs id None refl made
