-- A stub's numbers at a later cursor.
use Rattle.std.proofs.Common.{◌≡◌, ℕ, ◌+◌, ◌-◌, ◌≤◌, ◌<◌, Bool, false, List, [], ◌++◌, length, take, drop, nat_lt, nat_le, subst, sym, ap, ◌∙◌, arith, cond, length-append, length-drop, append_assoc, ◌⊎◌, inl, inr}
use Rattle.std.specs.List.{filter, prefix_len}
use Rattle.std.proofs.Math.Seq.{take-add}
use Rattle.std.proofs.lemmas.List.{drop-drop, drop-take, length-take, take-append-drop, append-nil, take_all}
use Rattle.std.proofs.lemmas.List.Sums.{prefix_len-le-length}
use Rattle.cql_value.specs.Element.{Element}
use Rattle.cql_window.specs.declared.window.Window.{Window}
use Rattle.cql_window.specs.declared.window.Window.TheVariants.{Range, Rows, All as all, Parts}
use Rattle.cql_window.specs.Laws.{HasNoParts}
use Rattle.cql_window.specs.Pin.{AreRows}
use Rattle.cql_window.specs.Bounds.{end_in}
use Rattle.cql_window.specs.Window.{AreAscending, front_len, kept, content, beyond, count_before, last_of_parts}
use Rattle.cql_window.proofs.Ends.{before_mono, before_rest}
use Rattle.cql_window.proofs.Laws.{kept_le}
use Rattle.cql_window.proofs.Newest.{parts_twice}
use Rattle.cql_window.proofs.Coming.{more_come}
use Rattle.cql_window.specs.Coming.{with_all}
use Rattle.cql_window.proofs.Between.{range_between}
use Rattle.cql_store.proofs.Fit.{asc_take, fit_drop, fit_behind, fit_front, fit_newest}
use Rattle.cql_store.proofs.Keeps.{whole}
use Rattle.cql_store.specs.declared.stub.Stub.{Stub}
use Rattle.cql_store.specs.Held.{advanced, CanAdvance, HasParts, IsKeptFor, IsReady, pinned}
use Rattle.cql_store.specs.Sequence.{shown, shifted, IsSound, IsKept}
use Rattle.cql_window.proofs.Walked.{end_rises as end_later}

-- ---- counting

-- from the row that was counted to on, the count goes on
pub counted_on : (rows : List Element) (to : ℕ) (s : Stub) → IsSound rows s → s.cursor ≤ to → s.counted + count_before (end_in s.window to) (drop s.counted rows) ≡ s.read_to + count_before (end_in s.window to) (drop s.read_to rows)
counted_on rows to s is le =
    let end : ℕ = end_in s.window to in
    let k : ℕ = s.counted - s.read_to in
    let more : count_before (end_in s.window s.cursor) (drop s.read_to rows) ≤ count_before end (drop s.read_to rows) = before_mono _ _ (drop s.read_to rows) (end_later s.window s.cursor to le) in
    let rest : count_before end (drop s.read_to rows) ≡ k + count_before end (drop k (drop s.read_to rows)) = before_rest end k (drop s.read_to rows) (omega (arith, more, is.known)) in
    let at : s.read_to + k ≡ s.counted = omega (arith, is.counted) in
    let same : drop k (drop s.read_to rows) ≡ drop s.counted rows = drop-drop k s.read_to rows ∙ ap (λ n. drop n rows) at in
    omega (arith, rest, at, ap (count_before end) same)

-- what is counted beyond the front came before the end
known_on : (w : Window) (rows : List Element) (to read_to counted ahead : ℕ) → counted ≡ read_to + count_before (end_in w to) (drop read_to rows) → read_to + ahead ≤ counted → counted - (read_to + ahead) ≤ count_before (end_in w to) (drop (read_to + ahead) rows)
known_on w rows to read_to counted ahead is within =
    let end : ℕ = end_in w to in
    let few : ahead ≤ count_before end (drop read_to rows) = omega (arith, is, within) in
    let rest : count_before end (drop read_to rows) ≡ ahead + count_before end (drop ahead (drop read_to rows)) = before_rest end ahead (drop read_to rows) few in
    omega (arith, rest, is, ap (count_before end) (drop-drop ahead read_to rows))

-- ---- the stretch of a stub

-- the rows that a stub sees, joined
read_to_joined : (rows : List Element) (first read_to ahead : ℕ) → first ≤ read_to → take (read_to - first) (drop first rows) ++ take ahead (drop read_to rows) ≡ take (read_to + ahead - first) (drop first rows)
read_to_joined rows first read_to ahead order =
    let k : ℕ = read_to - first in
    let rest : drop read_to rows ≡ drop k (drop first rows) = sym (drop-drop k first rows ∙ ap (λ n. drop n rows) (omega arith)) in
    ap (λ l. take k (drop first rows) ++ take ahead l) rest
    ∙ sym (take-add k ahead (drop first rows))
    ∙ ap (λ n. take n (drop first rows)) (omega arith)

drop_taken : (k m : ℕ) (xs : List Element) → k ≤ m → drop k (take m xs) ≡ take (m - k) (drop k xs)
drop_taken k m xs le = ap (λ n. drop k (take n xs)) (omega arith) ∙ drop-take k (m - k) xs

-- a stub at a cursor
abbrev pub moved_to : ℕ → List Element → ℕ → ℕ → ℕ → Stub → Stub
moved_to to k counted ahead gone s = record s { kept = k; cursor = to; counted = counted; first = s.first + gone; read_to = s.read_to + ahead }

-- a stub that holds a stretch of the rows and nothing of its own
gone_to : (rows : List Element) (to counted ahead gone : ℕ) (s : Stub) → s.kept ≡ [] → s.overrun ≡ false → s.first ≤ s.read_to → ahead ≡ front_len s.window to (drop s.read_to rows) → gone ≤ s.read_to + ahead - s.first → kept s.window to (take (s.read_to + ahead - s.first) (drop s.first rows)) ≡ drop gone (take (s.read_to + ahead - s.first) (drop s.first rows)) → shown rows (moved_to to s.kept counted ahead gone s) ≡ advanced to (shown rows s)
gone_to rows to counted ahead gone s none live order is bound keeps =
    let stretch : List Element = take (s.read_to + ahead - s.first) (drop s.first rows) in
    let size : s.read_to + ahead - (s.first + gone) ≡ s.read_to + ahead - s.first - gone = omega (arith, bound) in
    let new : take (s.read_to + ahead - (s.first + gone)) (drop (s.first + gone) rows) ≡ drop gone stretch =
    (λ i. take (size i) (sym (drop-drop gone s.first rows) i)) ∙ sym (drop_taken gone (s.read_to + ahead - s.first) (drop s.first rows) bound) in
    let joined : take (s.read_to - s.first) (drop s.first rows) ++ take (front_len s.window to (drop s.read_to rows)) (drop s.read_to rows) ≡ stretch = ap (λ n. take (s.read_to - s.first) (drop s.first rows) ++ take n (drop s.read_to rows)) (sym is) ∙ read_to_joined rows s.first s.read_to ahead order in
    let now_content : s.kept ++ take (s.read_to + ahead - (s.first + gone)) (drop (s.first + gone) rows) ≡ content s.window to (s.kept ++ take (s.read_to - s.first) (drop s.first rows)) (drop s.read_to rows) =
    (λ i. none i ++ new i) ∙ sym keeps ∙ ap (kept s.window to) (sym joined) ∙ (λ i. kept s.window to ((sym none i ++ take (s.read_to - s.first) (drop s.first rows)) ++ take (front_len s.window to (drop s.read_to rows)) (drop s.read_to rows))) in
    let now_unseen : drop (s.read_to + ahead) rows ≡ beyond s.window to (drop s.read_to rows) = sym (drop-drop ahead s.read_to rows) ∙ ap (λ n. drop n (drop s.read_to rows)) is in
    grind (arith, live, now_content, now_unseen)

-- the newest of each part are the newest of each part among themselves
newest_of_newest : (columns : List ℕ) (n : ℕ) (xs : List Element) → last_of_parts columns n (last_of_parts columns n xs) ≡ last_of_parts columns n xs
newest_of_newest columns n xs = ap (last_of_parts columns n) (sym (append-nil (last_of_parts columns n xs))) ∙ parts_twice columns n xs [] ∙ ap (last_of_parts columns n) (append-nil xs)

plain_none : (w : Window) (kept : List Element) (first read_to : ℕ) → HasNoParts w → IsKept w kept first read_to → kept ≡ []
plain_none (Range l s) kept first read_to plain is = is
plain_none (Rows n s) kept first read_to plain is = is
plain_none all kept first read_to plain is = is
plain_none (Parts columns n) kept first read_to plain is = absurd plain

none_plain : (w : Window) (kept : List Element) (first read_to : ℕ) → HasNoParts w → kept ≡ [] → IsKept w kept first read_to
none_plain (Range l s) kept first read_to plain is = is
none_plain (Rows n s) kept first read_to plain is = is
none_plain all kept first read_to plain is = is
none_plain (Parts columns n) kept first read_to plain is = absurd plain

pub own_none : (rows : List Element) (s : Stub) → HasNoParts s.window → IsSound rows s → s.kept ≡ []
own_none rows s plain is = plain_none s.window s.kept s.first s.read_to plain is.kept

gone_sound : (rows : List Element) (to counted ahead gone : ℕ) (s : Stub) → HasNoParts s.window → IsSound rows s → counted ≡ s.read_to + count_before (end_in s.window to) (drop s.read_to rows) → counted ≤ length rows → s.read_to + ahead ≤ counted → gone ≤ s.read_to + ahead - s.first → IsSound rows (moved_to to s.kept counted ahead gone s)
gone_sound rows to counted ahead gone s plain is count within order bound =
    let none : s.kept ≡ [] = own_none rows s plain is in
    let fit : AreRows s.window (drop s.first rows) = fit_behind s.window s.kept (drop s.first rows) is.fit in
    let less : AreRows s.window (drop (s.first + gone) rows) = subst (AreRows s.window) (drop-drop gone s.first rows) (fit_drop s.window gone (drop s.first rows) fit) in
    record {
      order = omega (arith, bound, is.order);
      counted = order;
      known = known_on s.window rows to s.read_to counted ahead count order;
      within = within;
      kept = none_plain s.window s.kept (s.first + gone) (s.read_to + ahead) plain none;
      fit = subst (λ (l : List Element). AreRows s.window (l ++ drop (s.first + gone) rows)) (sym none) less;
      room = omega (arith, is.room);
    }

-- where times ascend, a range keeps what is behind the elements that it no longer reaches
pub range_past : (end len n : ℕ) (xs : List Element) → AreAscending xs → filter (λ y. nat_lt end (y.at + len + 2)) (take n xs) ≡ drop (prefix_len (λ y. nat_le (y.at + len + 2) end) (take n xs)) (take n xs)
range_past end len n xs asc =
    let ys : List Element = take n xs in
    let whole_of : take (length ys) ys ≡ ys = take_all (length ys) ys (omega arith) in
    sym (ap (filter (λ (y : Element). nat_lt end (y.at + len + 2))) whole_of)
    ∙ range_between len end (length ys) ys (asc_take n xs asc)
    ∙ ap (drop (prefix_len (λ (y : Element). nat_le (y.at + len + 2) end) ys)) whole_of

pub past_le : (p : Element → Bool) (n : ℕ) (xs : List Element) → prefix_len p (take n xs) ≤ n
past_le p n xs = omega (arith, prefix_len-le-length p (take n xs), length-take n xs)

-- the newest of each part are rows of the window too
fit_kept : (v w : Window) (to : ℕ) (xs ys : List Element) → HasParts w → AreRows v (xs ++ ys) → AreRows v (kept w to xs ++ ys)
fit_kept v (Range len slide) to xs ys parts fit = absurd parts
fit_kept v (Rows count slide) to xs ys parts fit = absurd parts
fit_kept v all to xs ys parts fit = absurd parts
fit_kept v (Parts columns count) to xs ys parts fit = fit_newest v columns count xs ys fit

parts_kept : (w : Window) (to : ℕ) (kept settled unseen : List Element) → HasParts w → IsKeptFor w to kept settled unseen → kept ≡ content w to settled unseen
parts_kept (Range l s) to kept settled unseen parts is = absurd parts
parts_kept (Rows n s) to kept settled unseen parts is = absurd parts
parts_kept all to kept settled unseen parts is = absurd parts
parts_kept (Parts columns n) to kept settled unseen parts is = is

plain_kept : (w : Window) (to : ℕ) (kept settled unseen : List Element) → HasNoParts w → IsKeptFor w to kept settled unseen → kept ≡ []
plain_kept (Range l s) to kept settled unseen plain is = is
plain_kept (Rows n s) to kept settled unseen plain is = is
plain_kept all to kept settled unseen plain is = is
plain_kept (Parts columns n) to kept settled unseen plain is = absurd plain

parts_same : (w : Window) (kept : List Element) (first read_to : ℕ) → HasParts w → IsKept w kept first read_to → first ≡ read_to
parts_same (Range l s) kept first read_to parts is = absurd parts
parts_same (Rows n s) kept first read_to parts is = absurd parts
parts_same all kept first read_to parts is = absurd parts
parts_same (Parts columns n) kept first read_to parts is = is.0

same_parts : (w : Window) (to : ℕ) (own xs : List Element) (first read_to : ℕ) → HasParts w → own ≡ kept w to xs → first ≡ read_to → IsKept w own first read_to
same_parts (Range l s) to own xs first read_to parts newest is = absurd parts
same_parts (Rows n s) to own xs first read_to parts newest is = absurd parts
same_parts all to own xs first read_to parts newest is = absurd parts
same_parts (Parts columns n) to own xs first read_to parts newest is = (is, ap (last_of_parts columns n) newest ∙ newest_of_newest columns n xs ∙ sym newest)

pub plain_or_parts : (w : Window) → HasNoParts w ⊎ HasParts w
plain_or_parts (Range l s) = inl tt
plain_or_parts (Rows n s) = inl tt
plain_or_parts all = inl tt
plain_or_parts (Parts columns n) = inr tt

-- what a stub that isn't overrun holds
ready_kept : (rows : List Element) (to : ℕ) (k : List Element) (s : Stub) → IsReady to k (shown rows s) → IsKeptFor s.window to k (s.kept ++ take (s.read_to - s.first) (drop s.first rows)) (drop s.read_to rows)
ready_kept rows to k s ready = subst (λ (o : Bool). IsKeptFor s.window to k (cond o [] (s.kept ++ take (s.read_to - s.first) (drop s.first rows))) (cond o [] (drop s.read_to rows))) ready.can.live ready.keeps

parts_shown : (rows : List Element) (to counted ahead gone : ℕ) (k : List Element) (s : Stub) → HasParts s.window → s.overrun ≡ false → s.first ≤ s.read_to → ahead ≡ front_len s.window to (drop s.read_to rows) → gone ≡ s.read_to + ahead - s.first → IsKeptFor s.window to k (s.kept ++ take (s.read_to - s.first) (drop s.first rows)) (drop s.read_to rows) → shown rows (moved_to to k counted ahead gone s) ≡ advanced to (shown rows s)
parts_shown rows to counted ahead gone k s parts live order is bound keeps =
    let none : s.read_to + ahead - (s.first + gone) ≡ 0 = omega (arith, bound, order) in
    let empty : take (s.read_to + ahead - (s.first + gone)) (drop (s.first + gone) rows) ≡ [] = ap (λ n. take n (drop (s.first + gone) rows)) none in
    let now_content : k ++ take (s.read_to + ahead - (s.first + gone)) (drop (s.first + gone) rows) ≡ content s.window to (s.kept ++ take (s.read_to - s.first) (drop s.first rows)) (drop s.read_to rows) =
    ap (λ l. k ++ l) empty ∙ append-nil k ∙ parts_kept s.window to k _ _ parts keeps in
    let now_unseen : drop (s.read_to + ahead) rows ≡ beyond s.window to (drop s.read_to rows) = sym (drop-drop ahead s.read_to rows) ∙ ap (λ n. drop n (drop s.read_to rows)) is in
    grind (arith, live, now_content, now_unseen)

parts_sound : (rows : List Element) (to counted ahead gone : ℕ) (k : List Element) (s : Stub) → HasParts s.window → IsSound rows s → counted ≡ s.read_to + count_before (end_in s.window to) (drop s.read_to rows) → counted ≤ length rows → s.read_to + ahead ≤ counted → ahead ≡ front_len s.window to (drop s.read_to rows) → gone ≡ s.read_to + ahead - s.first → IsKeptFor s.window to k (s.kept ++ take (s.read_to - s.first) (drop s.first rows)) (drop s.read_to rows) → IsSound rows (moved_to to k counted ahead gone s)
parts_sound rows to counted ahead gone k s parts is count within order front bound keeps =
    let settled : List Element = s.kept ++ take (s.read_to - s.first) (drop s.first rows) in
    let looked : List Element = settled ++ take ahead (drop s.read_to rows) in
    let at : s.first + gone ≡ s.read_to + ahead = omega (arith, bound, is.order) in
    let same : s.first ≡ s.read_to = parts_same s.window s.kept s.first s.read_to parts is.kept in
    let kept_is : k ≡ kept s.window to looked = parts_kept s.window to k _ _ parts keeps ∙ ap (λ n. kept s.window to (settled ++ take n (drop s.read_to rows))) (sym front) in
    let rest : drop (s.first + gone) rows ≡ drop ahead (drop s.read_to rows) = ap (λ n. drop n rows) at ∙ sym (drop-drop ahead s.read_to rows) in
    let all_of : looked ++ drop ahead (drop s.read_to rows) ≡ s.kept ++ drop s.first rows =
    append_assoc settled (take ahead (drop s.read_to rows)) (drop ahead (drop s.read_to rows))
    ∙ ap (λ l. settled ++ l) (take-append-drop ahead (drop s.read_to rows))
    ∙ whole rows s is.order in
    let fit : AreRows s.window (kept s.window to looked ++ drop ahead (drop s.read_to rows)) = fit_kept s.window s.window to looked _ parts (subst (AreRows s.window) (sym all_of) is.fit) in
    let fewer : length (kept s.window to looked) ≤ length looked = kept_le s.window to looked in
    let counts : length looked ≡ length s.kept + (s.read_to - s.first) + ahead = omega (arith, length-append settled (take ahead (drop s.read_to rows)), length-append s.kept (take (s.read_to - s.first) (drop s.first rows)), length-take (s.read_to - s.first) (drop s.first rows), length-take ahead (drop s.read_to rows), length-drop s.first rows, length-drop s.read_to rows, within, order, is.order) in
    record {
      order = omega (arith, at);
      counted = order;
      known = known_on s.window rows to s.read_to counted ahead count order;
      within = within;
      kept = same_parts s.window to k looked (s.first + gone) (s.read_to + ahead) parts kept_is at;
      fit = subst (AreRows s.window) (λ i. sym kept_is i ++ sym rest i) fit;
      room = omega (arith, is.room, fewer, counts, ap length kept_is, at, same, within, order);
    }

-- a stub of any window
pub go_shown : (rows : List Element) (to counted ahead gone : ℕ) (k : List Element) (s : Stub) → IsReady to k (shown rows s) → IsSound rows s → ahead ≡ front_len s.window to (drop s.read_to rows) → gone ≤ s.read_to + ahead - s.first → (HasNoParts s.window → kept s.window to (take (s.read_to + ahead - s.first) (drop s.first rows)) ≡ drop gone (take (s.read_to + ahead - s.first) (drop s.first rows))) → (HasParts s.window → gone ≡ s.read_to + ahead - s.first) → shown rows (moved_to to k counted ahead gone s) ≡ advanced to (shown rows s)
go_shown rows to counted ahead gone k s ready is front bound plainly partly =
    let keeps = ready_kept rows to k s ready in
    elim (plain_or_parts s.window) [
      | inl plain ↦
          let none : s.kept ≡ [] = own_none rows s plain is in
          let same : k ≡ s.kept = plain_kept s.window to k _ _ plain keeps ∙ sym none in
          ap (λ l. shown rows (moved_to to l counted ahead gone s)) same ∙ gone_to rows to counted ahead gone s none ready.can.live is.order front bound (plainly plain)
      | inr parts ↦ parts_shown rows to counted ahead gone k s parts ready.can.live is.order front (partly parts) keeps
    ]

pub go_sound : (rows : List Element) (to counted ahead gone : ℕ) (k : List Element) (s : Stub) → IsReady to k (shown rows s) → counted ≡ s.read_to + count_before (end_in s.window to) (drop s.read_to rows) → counted ≤ length rows → s.read_to + ahead ≤ counted → ahead ≡ front_len s.window to (drop s.read_to rows) → gone ≤ s.read_to + ahead - s.first → (HasParts s.window → gone ≡ s.read_to + ahead - s.first) → IsSound rows s → IsSound rows (moved_to to k counted ahead gone s)
go_sound rows to counted ahead gone k s ready count within order front bound partly is =
    let keeps = ready_kept rows to k s ready in
    elim (plain_or_parts s.window) [
      | inl plain ↦
          let same : k ≡ s.kept = plain_kept s.window to k _ _ plain keeps ∙ sym (own_none rows s plain is) in
          subst (λ (l : List Element). IsSound rows (moved_to to l counted ahead gone s)) (sym same) (gone_sound rows to counted ahead gone s plain is count within order bound)
      | inr parts ↦ parts_sound rows to counted ahead gone k s parts is count within order front (partly parts) keeps
    ]

-- where it passes some, it keeps what these make of what it has
pub some_passed : (rows : List Element) (to : ℕ) (columns : List ℕ) (count ahead : ℕ) (s : Stub) → s.window ≡ Parts columns count → IsSound rows s → 0 < count → ahead ≡ front_len s.window to (drop s.read_to rows) → with_all columns count s.kept (take ahead (drop s.read_to rows)) ≡ content (Parts columns count) to (s.kept ++ take (s.read_to - s.first) (drop s.first rows)) (drop s.read_to rows)
some_passed rows to columns count ahead s window is some front =
    let own : (s.first ≡ s.read_to) × (last_of_parts columns count s.kept ≡ s.kept) = subst (λ w. IsKept w s.kept s.first s.read_to) window is.kept in
    let no_more : s.read_to - s.first ≡ 0 = omega (arith, own.0) in
    let at : ahead ≡ front_len (Parts columns count) to (drop s.read_to rows) = front ∙ ap (λ w. front_len w to (drop s.read_to rows)) window in
    let settled : s.kept ++ take (s.read_to - s.first) (drop s.first rows) ≡ s.kept = ap (λ n. s.kept ++ take n (drop s.first rows)) no_more ∙ append-nil s.kept in
    sym (more_come columns count s.kept (take ahead (drop s.read_to rows)) some own.1)
    ∙ (λ i. last_of_parts columns count (sym settled i ++ take (at i) (drop s.read_to rows)))

-- and so it is ready
pub some_ready : (rows : List Element) (to : ℕ) (columns : List ℕ) (count ahead : ℕ) (k : List Element) (s : Stub) → s.window ≡ Parts columns count → IsSound rows s → CanAdvance to (shown rows s) → 0 < count → ahead ≡ front_len s.window to (drop s.read_to rows) → k ≡ with_all columns count s.kept (take ahead (drop s.read_to rows)) → IsReady to k (shown rows s)
some_ready rows to columns count ahead k s window is can some front made =
    let settled : List Element = s.kept ++ take (s.read_to - s.first) (drop s.first rows) in
    let keeps : IsKeptFor s.window to k settled (drop s.read_to rows) = subst (λ (w : Window). IsKeptFor w to k settled (drop s.read_to rows)) (sym window) (made ∙ some_passed rows to columns count ahead s window is some front) in
    record {
      can = can;
      keeps = subst (λ (o : Bool). IsKeptFor s.window to k (cond o [] settled) (cond o [] (drop s.read_to rows))) (sym can.live) keeps;
    }

-- the rows of a stub in the store
pub fit_store : (rows : List Element) (s : Stub) → IsSound rows s → AreAscending (drop s.first rows)
fit_store rows s is = (fit_behind s.window s.kept (drop s.first rows) is.fit).0

-- its rows from an index on
fit_from : (rows : List Element) (index : ℕ) (s : Stub) → IsSound rows s → s.first ≤ index → AreAscending (drop index rows)
fit_from rows index s is order =
    let sum : s.first + (index - s.first) ≡ index = omega (arith, order) in
    subst AreAscending (drop-drop (index - s.first) s.first rows ∙ ap (λ n. drop n rows) sum)
    (fit_drop s.window (index - s.first) (drop s.first rows) (fit_behind s.window s.kept (drop s.first rows) is.fit)).0

-- its rows from where it was counted to on
pub fit_counted : (rows : List Element) (s : Stub) → IsSound rows s → AreAscending (drop s.counted rows)
fit_counted rows s is = fit_from rows s.counted s is (omega (arith, is.order, is.counted))

-- its unseen rows
pub fit_unseen : (rows : List Element) (s : Stub) → IsSound rows s → AreAscending (drop s.read_to rows)
fit_unseen rows s is = fit_from rows s.read_to s is is.order

-- the rows of a pin
pub fit_pin : (rows : List Element) (n : ℕ) (s : Stub) → IsSound rows s → AreRows s.window ((s.kept ++ take (s.read_to - s.first) (drop s.first rows)) ++ take n (drop s.read_to rows))
fit_pin rows n s is =
    let settled : List Element = s.kept ++ take (s.read_to - s.first) (drop s.first rows) in
    let all_of : (settled ++ take n (drop s.read_to rows)) ++ drop n (drop s.read_to rows) ≡ s.kept ++ drop s.first rows =
    append_assoc settled (take n (drop s.read_to rows)) (drop n (drop s.read_to rows))
    ∙ ap (λ l. settled ++ l) (take-append-drop n (drop s.read_to rows))
    ∙ whole rows s is.order in
    fit_front s.window (settled ++ take n (drop s.read_to rows)) (drop n (drop s.read_to rows)) (subst (AreRows s.window) (sym all_of) is.fit)

pub pin_shown : (rows : List Element) (until : ℕ) (s : Stub) → s.overrun ≡ false → record { window = s.window; content = s.kept ++ take (s.read_to - s.first) (drop s.first rows); unseen = take (count_before until (drop s.read_to rows)) (drop s.read_to rows) } ≡ pinned until (shown rows s)
pin_shown rows until s live = grind (arith, live)

-- ---- numbers that count the rows that are gone too

-- a stub that moved, with the rows that are gone added to its numbers
pub moved_shifted : (past to counted ahead gone : ℕ) (k : List Element) (s : Stub) → shifted past (record s { kept = k; cursor = to; counted = past + counted; first = past + (s.first - past + gone); read_to = past + (s.read_to - past + ahead) }) ≡ moved_to to k counted ahead gone (shifted past s)
moved_shifted past to counted ahead gone k s =
    let count : past + counted - past ≡ counted = omega arith in
    let first : past + (s.first - past + gone) - past ≡ s.first - past + gone = omega arith in
    let read_to : past + (s.read_to - past + ahead) - past ≡ s.read_to - past + ahead = omega arith in
    λ i. record s { kept = k; cursor = to; counted = count i; first = first i; read_to = read_to i }
