-- Rows that are struck off against others, where both ascend.
use Rattle.std.proofs.Common.{◌≡◌, ◌≢◌, ℕ, suc, ◌+◌, ◌-◌, ◌<◌, ◌≤◌, ◌⊎◌, inl, inr, List, [], ◌∷◌, ◌++◌, length, drop, get_or, add-one, replicate, if◌then◌else◌, nat_lt, Bool, true, false, refl, sym, ap, ◌∙◌, subst, arith, append_assoc, append-nil, Ordering, Less, Equal, Greater}
use Rattle.std.specs.List.{All, AllByRecursion}
use Rattle.std.specs.List.Sorted.{IsSorted}
use Rattle.std.specs.Ordering.{is_eq, is_lt, ordering_reverse}
use Rattle.std.specs.Cmp.{tied_itself}
use Rattle.std.proofs.Math.Seq.{drop-cons}
use Rattle.std.proofs.lemmas.List.{drop_all}
use Rattle.std.proofs.lemmas.Bool.Decides.{nat_tests}
use Rattle.std.proofs.lemmas.List.Elements.{All-head, All-tail}
use Rattle.std.proofs.lemmas.List.Sorted.{sorted_far, ranks_by}
use Rattle.cql_value.specs.Order.{row_cmp, row_cmp_total, row_cmp_exact}
use Rattle.cql_value.specs.declared.value.Value.{Value}
use Rattle.cql_value.proofs.Ties.{tied, ties_itself}
use Rattle.cql_bag.specs.Bag.{Counts, IsBag, by_order, count, minus, bag_of, listing}
use Rattle.cql_bag.specs.Law.{times_in, AreAscending}
use Rattle.cql_bag.specs.Rest.{strike, rest_rows}
use Rattle.cql_bag.proofs.Listing.{bag_of_law, listing_law, minus_law_of}

abbrev Row : Type 0
Row = List Value

-- ---- rows that ascend

flip : (x y : Row) (r : Ordering) → row_cmp y x ≡ r → row_cmp x y ≡ ordering_reverse r
flip x y r h = row_cmp_total.antisymm x y ∙ ap ordering_reverse h

not_above : (x y : Row) → is_lt (row_cmp y x) ≡ false → row_cmp x y ≢ Greater
not_above x y h g = let l : row_cmp y x ≡ Less = flip y x Greater g in let t : true ≡ false = ap is_lt (sym l) ∙ h in cc

each_from : (x : Row) (xs : List Row) → ((j : ℕ) (d : Row) → j < length xs → is_lt (row_cmp (get_or xs j d) x) ≡ false) → AllByRecursion (λ y. row_cmp x y ≢ Greater) xs
each_from x [] far = tt
each_from x (y ∷ ys) far = (not_above x y (far 0 y (omega arith)), each_from x ys (λ j d lt. far (suc j) d (omega arith)))

ascending_from : (xs : List Row) → ((i j : ℕ) (d : Row) → i ≤ j → j < length xs → is_lt (row_cmp (get_or xs j d) (get_or xs i d)) ≡ false) → AreAscending xs
ascending_from [] far = tt
ascending_from (x ∷ xs) far = (each_from x xs (λ j d lt. far 0 (suc j) d (omega arith) (omega arith)), ascending_from xs (λ i j d le lt. far (suc i) (suc j) d (omega arith) (omega arith)))

pub ascending : (xs : List Row) → IsSorted row_cmp xs → AreAscending xs
ascending xs up = ascending_from xs (sorted_far (λ x y. is_lt (row_cmp x y)) (ranks_by row_cmp_total (λ x. x)) xs up)

-- a row below one is not among those that are not
none_below : (q x : Row) (xs : List Row) → row_cmp q x ≡ Less → AllByRecursion (λ y. row_cmp x y ≢ Greater) xs → times_in q xs ≡ 0
none_below q x [] lt all = refl
none_below q x (y ∷ ys) lt all =
    let rest : times_in q ys ≡ 0 = none_below q x ys lt all.1 in
    elim (is_eq (row_cmp y q)) as (λ b. is_eq (row_cmp y q) ≡ b → (if b then 1 else 0) + times_in q ys ≡ 0) [
      | true ↦ λ h. absurd (all.0 (ap (row_cmp x) (tied y q h) ∙ flip x q Less lt))
      | false ↦ λ h. omega (arith, rest)
    ] refl

not_itself : (q x : Row) → row_cmp q x ≡ Less → is_eq (row_cmp x q) ≡ false
not_itself q x lt = ap is_eq (flip x q Less lt)

-- a row among those that meet P meets it
among : (P : Row → Type 0) (q : Row) (xs : List Row) → AllByRecursion P xs → 0 < times_in q xs → P q
among P q [] all some = absurd (omega arith)
among P q (x ∷ xs) all some =
    elim (is_eq (row_cmp x q)) as (λ b. is_eq (row_cmp x q) ≡ b → 0 < (if b then 1 else 0) + times_in q xs → P q) [
      | true ↦ λ h s. subst P (tied x q h) all.0
      | false ↦ λ h s. among P q xs all.1 (omega (arith, s))
    ] refl some

itself : (x : Row) → row_cmp x x ≢ Greater
itself x h = let e = tied_itself row_cmp_total x in cc

-- a row counts among those that it begins
counts_first : (x : Row) (xs : List Row) → times_in x (x ∷ xs) ≡ 1 + times_in x xs
counts_first x xs = ap (λ b. (if b then 1 else 0) + times_in x xs) (ties_itself x)

neither_above : (x y : Row) → row_cmp x y ≢ Greater → row_cmp y x ≢ Greater → x ≡ y
neither_above x y a b =
    elim (row_cmp x y) as (λ r. row_cmp x y ≡ r → x ≡ y) [
      | Less ↦ λ h. absurd (b (flip y x Less h))
      | Equal ↦ λ h. row_cmp_exact x y h
      | Greater ↦ λ h. absurd (a h)
    ] refl

-- rows that ascend and count alike are the same
pub same_ascending : (xs ys : List Row) → AreAscending xs → AreAscending ys → ((q : Row) → times_in q xs ≡ times_in q ys) → xs ≡ ys
same_ascending [] [] up on same = refl
same_ascending [] (y ∷ ys) up on same = absurd (let s = same y in let c = counts_first y ys in omega (arith, s, c))
same_ascending (x ∷ xs) [] up on same = absurd (let s = same x in let c = counts_first x xs in omega (arith, s, c))
same_ascending (x ∷ xs) (y ∷ ys) up on same =
    let a : row_cmp y x ≢ Greater = among (λ z. row_cmp y z ≢ Greater) x (y ∷ ys) (itself y, on.0) (let s = same x in let c = counts_first x xs in omega (arith, s, c)) in
    let b : row_cmp x y ≢ Greater = among (λ z. row_cmp x z ≢ Greater) y (x ∷ xs) (itself x, up.0) (let s = same y in let c = counts_first y ys in omega (arith, s, c)) in
    let e : x ≡ y = neither_above x y b a in
    let rest : xs ≡ ys = same_ascending xs ys up.1 on.1 (λ q. (let s : times_in q (x ∷ xs) ≡ times_in q (x ∷ ys) = same q ∙ ap (λ z. times_in q (z ∷ ys)) (sym e) in omega (arith, s))) in
    λ i. e i ∷ rest i

-- ---- one row

-- a row that isn't below counts as before, with the one that was struck off
struck_counts : (q x : Row) (ys : List Row) → row_cmp q x ≢ Less → times_in q ys ≡ times_in q (strike x ys).0 + (if (strike x ys).1 then (if is_eq (row_cmp x q) then 1 else 0) else 0)
struck_counts q x [] not_below = refl
struck_counts q x (y ∷ ys) not_below =
    elim (row_cmp y x) as (λ r. row_cmp y x ≡ r → times_in q (y ∷ ys) ≡ times_in q (by_order r (strike x ys) (ys, true) (y ∷ ys, false)).0 + (if (by_order r (strike x ys) (ys, true) (y ∷ ys, false)).1 then (if is_eq (row_cmp x q) then 1 else 0) else 0)) [
      | Less ↦ λ h. below h ∙ struck_counts q x ys not_below
      | Equal ↦ λ h. let e : y ≡ x = row_cmp_exact y x h in let s : times_in q (y ∷ ys) ≡ times_in q (x ∷ ys) = ap (λ z. times_in q (z ∷ ys)) e in omega (arith, s)
      | Greater ↦ λ h. omega arith
    ] refl
  where
    below : row_cmp y x ≡ Less → times_in q (y ∷ ys) ≡ times_in q ys
    below h =
        elim (is_eq (row_cmp y q)) as (λ b. is_eq (row_cmp y q) ≡ b → (if b then 1 else 0) + times_in q ys ≡ times_in q ys) [
          | true ↦ λ t. absurd (not_below (ap (λ z. row_cmp z x) (sym (tied y q t)) ∙ h))
          | false ↦ λ t. omega arith
        ] refl

-- where none was struck off the row is not left
unstruck_none : (x : Row) (ys : List Row) → AreAscending ys → (strike x ys).1 ≡ false → times_in x (strike x ys).0 ≡ 0
unstruck_none x [] up none = refl
unstruck_none x (y ∷ ys) up none =
    elim (row_cmp y x) as (λ r. row_cmp y x ≡ r → (by_order r (strike x ys) (ys, true) (y ∷ ys, false)).1 ≡ false → times_in x (by_order r (strike x ys) (ys, true) (y ∷ ys, false)).0 ≡ 0) [
      | Less ↦ λ h n. unstruck_none x ys up.1 n
      | Equal ↦ λ h n. absurd cc
      | Greater ↦ λ h n. let rest = none_below x y ys (flip x y Greater h) up.0 in let first = ap is_eq h in rw first (omega (arith, rest))
    ] refl none

strike_ascending : (x : Row) (ys : List Row) → AreAscending ys → AreAscending (strike x ys).0
strike_ascending x [] up = tt
strike_ascending x (y ∷ ys) up =
    elim (row_cmp y x) as (λ r. AreAscending (by_order r (strike x ys) (ys, true) (y ∷ ys, false)).0) [ Less ↦ strike_ascending x ys up.1 | Equal ↦ up.1 | Greater ↦ up ]

-- ---- all rows

each_rest : (P : Row → Type 0) (xs ys : List Row) → AllByRecursion P xs → AllByRecursion P (rest_rows xs ys)
each_rest P [] ys all = tt
each_rest P (x ∷ xs) ys all =
    let rest = each_rest P xs (strike x ys).0 all.1 in
    elim (strike x ys).1 as (λ b. AllByRecursion P (if b then rest_rows xs (strike x ys).0 else x ∷ rest_rows xs (strike x ys).0)) [ true ↦ rest | false ↦ (all.0, rest) ]

rest_ascending : (xs ys : List Row) → AreAscending xs → AreAscending (rest_rows xs ys)
rest_ascending [] ys up = tt
rest_ascending (x ∷ xs) ys up =
    let rest = rest_ascending xs (strike x ys).0 up.1 in
    elim (strike x ys).1 as (λ b. AreAscending (if b then rest_rows xs (strike x ys).0 else x ∷ rest_rows xs (strike x ys).0)) [
      | true ↦ rest
      | false ↦ (each_rest (λ y. row_cmp x y ≢ Greater) xs (strike x ys).0 up.0, rest)
    ]

-- one row more, that is below the one asked for or isn't, and struck off or not
none_left : (t : Bool) (s n m k r : ℕ) → s ≡ 0 → n ≡ 0 → r ≡ n - m → (if t then r else s + r) ≡ (s + n) - k
none_left true s n m k r a b c = omega arith
none_left false s n m k r a b c = omega arith

-- 1 where there is one
abbrev one_if : Bool → ℕ
one_if b = if b then 1 else 0

some_left : (t : Bool) (s n m k r : ℕ) → (t ≡ false → (s ≡ 0) ⊎ (m ≡ 0)) → k ≡ m + (if t then s else 0) → r ≡ n - m → (if t then r else s + r) ≡ (s + n) - k
some_left true s n m k r a b c = omega arith
some_left false s n m k r a b c = elim (a refl) [ inl h ↦ omega (arith, h) | inr h ↦ omega (arith, h) ]

apart_or_none : (q x : Row) (ys : List Row) → AreAscending ys → (strike x ys).1 ≡ false → (one_if (is_eq (row_cmp x q)) ≡ 0) ⊎ (times_in q (strike x ys).0 ≡ 0)
apart_or_none q x ys up none =
    elim (is_eq (row_cmp x q)) as (λ b. is_eq (row_cmp x q) ≡ b → (one_if b ≡ 0) ⊎ (times_in q (strike x ys).0 ≡ 0)) [
      | true ↦ λ t. inr (ap (λ z. times_in z (strike x ys).0) (sym (tied x q t)) ∙ unstruck_none x ys up none)
      | false ↦ λ t. inl refl
    ] refl

taken : (q x : Row) (t : Bool) (xs ys : List Row) → times_in q (if t then rest_rows xs ys else x ∷ rest_rows xs ys) ≡ (if t then times_in q (rest_rows xs ys) else (if is_eq (row_cmp x q) then 1 else 0) + times_in q (rest_rows xs ys))
taken q x true xs ys = refl
taken q x false xs ys = refl

rest_counts : (q : Row) (xs ys : List Row) → AreAscending xs → AreAscending ys → times_in q (rest_rows xs ys) ≡ times_in q xs - times_in q ys
rest_counts q [] ys up on = omega arith
rest_counts q (x ∷ xs) ys up on =
    let s : ℕ = if is_eq (row_cmp x q) then 1 else 0 in
    let d = (strike x ys).0 in
    let rest : times_in q (rest_rows xs d) ≡ times_in q xs - times_in q d = rest_counts q xs d up.1 (strike_ascending x ys on) in
    let above : row_cmp q x ≢ Less → (if (strike x ys).1 then times_in q (rest_rows xs d) else s + times_in q (rest_rows xs d)) ≡ (s + times_in q xs) - times_in q ys
    = λ a. some_left (strike x ys).1 s (times_in q xs) (times_in q d) (times_in q ys) (times_in q (rest_rows xs d)) (apart_or_none q x ys on) (struck_counts q x ys a) rest in
    taken q x (strike x ys).1 xs d
    ∙ elim (row_cmp q x) as (λ r. row_cmp q x ≡ r → (if (strike x ys).1 then times_in q (rest_rows xs d) else s + times_in q (rest_rows xs d)) ≡ (s + times_in q xs) - times_in q ys) [
      | Less ↦ λ h. none_left (strike x ys).1 s (times_in q xs) (times_in q d) (times_in q ys) (times_in q (rest_rows xs d)) (ap (λ b. if b then 1 else 0) (not_itself q x h)) (none_below q x xs h up.0) rest
      | Equal ↦ λ h. above (λ l. cc)
      | Greater ↦ λ h. above (λ l. cc)
    ] refl

-- what is left is what the bag of the first has more of than that of the second
pub rest_law : (xs ys : List Row) → AreAscending xs → AreAscending ys → rest_rows xs ys ≡ listing (minus (bag_of xs) (bag_of ys))
rest_law xs ys up on =
    let first = bag_of_law xs in
    let second = bag_of_law ys in
    let less = minus_law_of (bag_of xs) (bag_of ys) first.0 in
    let listed = listing_law (minus (bag_of xs) (bag_of ys)) less.0 in
    same_ascending (rest_rows xs ys) (listing (minus (bag_of xs) (bag_of ys))) (rest_ascending xs ys up) listed.0 (λ q. (let r = rest_counts q xs ys up on in let l = listed.1 q in let m = less.1 q in let f = first.1 q in let s = second.1 q in omega (arith, r, l, m, f, s)))

-- ---- bags

listed_front : (e : Row × ℕ) (es b : Counts) → listing (minus (e ∷ es) b) ≡ replicate (e.1 - count e.0 b) e.0 ++ listing (minus es b)
listed_front e es b =
    elim (nat_lt (count e.0 b) e.1) as (λ t. nat_lt (count e.0 b) e.1 ≡ t → listing (if t then (e.0, e.1 - count e.0 b) ∷ minus es b else minus es b) ≡ replicate (e.1 - count e.0 b) e.0 ++ listing (minus es b)) [
      | true ↦ λ h. refl
      | false ↦ λ h. let none : e.1 - count e.0 b ≡ 0 = grind (arith, nat_tests) in rw none refl
    ] refl

-- bags that count the rows alike leave the same
minus_same : (es a b : Counts) → All (λ (f : Row × ℕ). count f.0 a ≡ count f.0 b) es → minus es a ≡ minus es b
minus_same [] a b all = refl
minus_same (e ∷ es) a b all =
    let P : Row × ℕ → Type 0 = λ f. count f.0 a ≡ count f.0 b in
    let h : count e.0 a ≡ count e.0 b = All-head P e es all in
    rw h (ap (λ l. if nat_lt (count e.0 b) e.1 then (e.0, e.1 - count e.0 b) ∷ l else l) (minus_same es a b (All-tail P e es all)))

-- one entry more is listed
pub listed_on : (rows next left on : Counts) (e : Row × ℕ) (less : ℕ) (out made whole : List Row) → rows ≡ e ∷ next → IsBag rows → less ≡ count e.0 left → ((q : Row) → row_cmp e.0 q ≡ Less → count q on ≡ count q left) → made ≡ out ++ replicate (e.1 - less) e.0 → out ++ listing (minus rows left) ≡ whole → made ++ listing (minus next on) ≡ whole
listed_on rows next left on e less out made whole cut bag counts same more before =
    let b : IsBag (e ∷ next) = subst IsBag cut bag in
    let told : List Row = replicate (e.1 - count e.0 left) e.0 in
    let m : made ≡ out ++ told = more ∙ ap (λ n. out ++ replicate (e.1 - n) e.0) counts in
    let behind : minus next on ≡ minus next left = minus_same next on left (λ j d lt. same (get_or next j d).0 (b.1 j d lt)) in
    ap (λ l. l ++ listing (minus next on)) m ∙ append_assoc out told (listing (minus next on)) ∙ ap (λ l. out ++ (told ++ listing l)) behind ∙ ap (λ l. out ++ l) (sym (listed_front e next left)) ∙ ap (λ r. out ++ listing (minus r left)) (sym cut) ∙ before

-- no row more is listed
pub nothing_listed : (out : List Row) (n : ℕ) (row : Row) → n ≡ 0 → out ≡ out ++ replicate n row
nothing_listed out n row none = rw none (sym (append-nil out))

-- ---- rows of which none is struck off

pub next_kept : (rows left later : List Row) (i : ℕ) (x : Row) → i < length rows → x ≡ get_or rows i x → later ≡ (strike x left).0 → (strike x left).1 ≡ false → rest_rows (drop (i + 1) rows) later ≡ drop (i + 1) rows → rest_rows (drop i rows) left ≡ drop i rows
next_kept rows left later i x lt is after apart rest =
    let xs = drop (i + 1) rows in
    let here : drop i rows ≡ x ∷ xs = drop-cons rows i x lt ∙ ap (λ r. r ∷ drop (suc i) rows) (sym is) ∙ ap (λ n. x ∷ drop n rows) (sym (add-one i)) in
    ap (λ l. rest_rows l left) here
    ∙ ap (λ (b : Bool). if b then rest_rows xs (strike x left).0 else x ∷ rest_rows xs (strike x left).0) apart
    ∙ ap (λ l. x ∷ rest_rows xs l) (sym after)
    ∙ ap (λ l. x ∷ l) rest
    ∙ sym here

pub all_kept : (rows left : List Row) (i : ℕ) → length rows ≤ i → rest_rows (drop i rows) left ≡ drop i rows
all_kept rows left i le = let none : drop i rows ≡ [] = drop_all i rows le in ap (λ l. rest_rows l left) none ∙ sym none

pub kept_whole : (rows others : List Row) → AreAscending rows → AreAscending others → rest_rows rows others ≡ rows → rows ≡ listing (minus (bag_of rows) (bag_of others))
kept_whole rows others up down kept = sym kept ∙ rest_law rows others up down
