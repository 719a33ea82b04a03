-- A window parts the same by columns that are kept once each.
use Rattle.std.proofs.Common.{◌≡◌, ℕ, ◌+◌, ◌<◌, length, drop, get_or, drop-cons, add-one, List, [], ◌∷◌, ◌++◌, Bool, true, false, ◌&&◌, ◌||◌, if◌then◌else◌, cond, nat_lt, nat_eq, refl, sym, ap, ◌∙◌, arith}
use Rattle.std.specs.Prelude.{slice_get}
use Rattle.std.specs.List.{list_any}
use Rattle.std.proofs.lemmas.Bool.Decides.{nat_tests}
use Rattle.cql_value.specs.Element.{Element}
use Rattle.cql_value.specs.declared.value.Value.{Value}
use Rattle.cql_window.specs.Window.{same_value, same_part, count_part, last_of_parts}
use Rattle.cql_window.specs.Once.{once_from, once, IsOnceLaw}

-- whether it is one of them
abbrev has : ℕ → List ℕ → Bool
has i js = list_any (λ j. nat_eq j i) js

and_true : (x : Bool) → x ≡ (x && true)
and_true true = refl
and_true false = refl

and_more : (x y z : Bool) → (x && y) ≡ x → (x && z) ≡ (x && (y && z))
and_more true y z h = ap (λ t. t && z) (sym h)
and_more false y z h = refl

and_shift : (x y z : Bool) → ((x && (y && true)) && z) ≡ (x && (y && z))
and_shift true true z = refl
and_shift true false z = refl
and_shift false y z = refl

and_here : (x y : Bool) → ((x && y) && x) ≡ (x && y)
and_here true true = refl
and_here true false = refl
and_here false y = refl

and_there : (x y z : Bool) → (y && z) ≡ y → ((x && y) && z) ≡ (x && y)
and_there true y z h = h
and_there false y z h = refl

and_ends : (x y z : Bool) → (x && (y && z)) ≡ ((x && y) && z)
and_ends true y z = refl
and_ends false y z = refl

module _ (a b : List Value) where
  abbrev same_at : ℕ → Bool
  same_at i = same_value (slice_get a i) (slice_get b i)

  same_append : (kept : List ℕ) (i : ℕ) → same_part (kept ++ i ∷ []) a b ≡ (same_part kept a b && (same_at i && true))
  same_append [] i = refl
  same_append (j ∷ js) i = ap (λ t. same_at j && t) (same_append js i) ∙ and_ends (same_at j) (same_part js a b) (same_at i && true)

  said : (i : ℕ) (kept : List ℕ) → has i kept ≡ true → (same_part kept a b && same_at i) ≡ same_part kept a b
  said i [] h = absurd cc
  said i (j ∷ js) h = by_test (said i js) (nat_eq j i) refl
    where
      by_test : (has i js ≡ true → (same_part js a b && same_at i) ≡ same_part js a b) → (t : Bool) → nat_eq j i ≡ t → (same_part (j ∷ js) a b && same_at i) ≡ same_part (j ∷ js) a b
      by_test more true k =
          let is : j ≡ i = grind (arith, nat_tests) in
          ap (λ n. same_part (j ∷ js) a b && same_at n) (sym is) ∙ and_here (same_at j) (same_part js a b)
      by_test more false k = and_there (same_at j) (same_part js a b) (same_at i) (more (ap (λ t. t || has i js) (sym k) ∙ h))

  pub same_once : (kept is : List ℕ) → same_part (once_from kept is) a b ≡ (same_part kept a b && same_part is a b)
  same_once kept [] = and_true (same_part kept a b)
  same_once kept (i ∷ is) = by_test (λ c. same_once c is) (has i kept) refl
    where
      by_test : ((c : List ℕ) → same_part (once_from c is) a b ≡ (same_part c a b && same_part is a b)) → (t : Bool) → has i kept ≡ t → same_part (once_from kept (i ∷ is)) a b ≡ (same_part kept a b && (same_at i && same_part is a b))
      by_test more true k =
          ap (λ t. same_part (if t then once_from kept is else once_from (kept ++ i ∷ []) is) a b) k ∙ more kept
          ∙ and_more (same_part kept a b) (same_at i) (same_part is a b) (said i kept k)
      by_test more false k =
          ap (λ t. same_part (if t then once_from kept is else once_from (kept ++ i ∷ []) is) a b) k ∙ more (kept ++ i ∷ [])
          ∙ ap (λ t. t && same_part is a b) (same_append kept i) ∙ and_shift (same_part kept a b) (same_at i) (same_part is a b)

count_once : (columns : List ℕ) (row : List Value) (xs : List Element) → count_part (once_from [] columns) row xs ≡ count_part columns row xs
count_once columns row [] = refl
count_once columns row (x ∷ xs) =
    let here = same_once row x.row [] columns in
    let rest = count_once columns row xs in
    λ k. cond (here k) (1 + rest k) (rest k)

-- the content is the same
pub last_once : IsOnceLaw
last_once columns n [] = refl
last_once columns n (x ∷ xs) =
    let here = ap (λ m. nat_lt m n) (count_once columns x.row xs) in
    let rest = last_once columns n xs in
    λ k. cond (here k) (x ∷ rest k) (rest k)

-- one column more is looked at
pub one_more : (kept columns : List ℕ) (i : ℕ) (t : Bool) → i < length columns → once_from kept (drop i columns) ≡ once columns → list_any (λ j. nat_eq j (get_or columns i 0)) kept ≡ t
    → once_from (if t then kept else kept ++ get_or columns i 0 ∷ []) (drop (i + 1) columns) ≡ once columns
one_more kept columns i t within h is =
    let x = get_or columns i 0 in
    let rest = drop (i + 1) columns in
    let e : drop i columns ≡ x ∷ rest = drop-cons columns i 0 within ∙ ap (λ k. x ∷ drop k columns) (sym (add-one i)) in
    by t is (sym (ap (once_from kept) e) ∙ h)
  where
    by : (t : Bool) → list_any (λ j. nat_eq j (get_or columns i 0)) kept ≡ t → once_from kept (get_or columns i 0 ∷ drop (i + 1) columns) ≡ once columns
        → once_from (if t then kept else kept ++ get_or columns i 0 ∷ []) (drop (i + 1) columns) ≡ once columns
    by true is h = sym (ap (λ b. if b then once_from kept (drop (i + 1) columns) else once_from (kept ++ get_or columns i 0 ∷ []) (drop (i + 1) columns)) is) ∙ h
    by false is h = sym (ap (λ b. if b then once_from kept (drop (i + 1) columns) else once_from (kept ++ get_or columns i 0 ∷ []) (drop (i + 1) columns)) is) ∙ h
