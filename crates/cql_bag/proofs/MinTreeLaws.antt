-- The least of a list is in it, and none is below it.
use Rattle.std.proofs.Common.{◌≡◌, ℕ, zero, suc, ◌<◌, ◌≤◌, Bool, true, false, leb, List, [], ◌∷◌, length, min, refl, subst, arith, get_or, IfSome}
use Rattle.std.specs.List.{All, Contains}
use Rattle.std.proofs.lemmas.Bool.Decides.{nat_tests}
use Rattle.cql_bag.specs.Levels.{least_from, least_of}

least_from-below : (m : ℕ) (xs : List ℕ) → least_from m xs ≤ m
least_from-below m [] = omega arith
least_from-below m (x ∷ xs) = let e : least_from (min m x) xs ≤ min m x = least_from-below (min m x) xs in omega (arith, e)

least_from-all : (m : ℕ) (xs : List ℕ) (k d : ℕ) → k < length xs → least_from m xs ≤ get_or xs k d
least_from-all m [] k d within = absurd (omega (arith, within))
least_from-all m (x ∷ xs) zero d within = let e : least_from (min m x) xs ≤ min m x = least_from-below (min m x) xs in omega (arith, e)
least_from-all m (x ∷ xs) (suc k) d within = let inner : k < length xs = omega (arith, within) in least_from-all (min m x) xs k d inner

-- what holds of two numbers holds of the less
of_min : (P : ℕ → Type 0) (m n : ℕ) → P m → P n → P (min m n)
of_min P m n left right = by (leb m n) refl
  where
    by : (b : Bool) → leb m n ≡ b → P (min m n)
    by true is = let same : m ≡ min m n = grind (arith, nat_tests, is) in subst P same left
    by false is = let same : n ≡ min m n = grind (arith, nat_tests, is) in subst P same right

-- any property of m and of each number holds of the least
least_from-has : (P : ℕ → Type 0) (m : ℕ) (xs : List ℕ) → P m → ((k : ℕ) → k < length xs → P (get_or xs k 0)) → P (least_from m xs)
least_from-has P m [] first rest = first
least_from-has P m (x ∷ xs) first rest = least_from-has P (min m x) xs (of_min P m x first (rest 0 (omega arith))) (λ k within. let inner : suc k < length (x ∷ xs) = omega (arith, within) in rest (suc k) inner)

get_or-same : (xs : List ℕ) (k d : ℕ) → k < length xs → get_or xs k d ≡ get_or xs k 0
get_or-same [] k d within = omega (arith, within)
get_or-same (x ∷ xs) zero d within = refl
get_or-same (x ∷ xs) (suc k) d within = let inner : k < length xs = omega (arith, within) in get_or-same xs k d inner

pub least_of-law : (xs : List ℕ) → IfSome (least_of xs) (λ m. All (λ x. m ≤ x) xs × Contains xs m)
least_of-law [] = tt
least_of-law (x ∷ xs) = (all, least_from-has (Contains (x ∷ xs)) x xs (0, omega arith, refl) (λ k within. let inner : suc k < length (x ∷ xs) = omega (arith, within) in (suc k, inner, get_or-same xs k (get_or xs k 0) within)))
  where
    all : (k d : ℕ) → k < length (x ∷ xs) → least_from x xs ≤ get_or (x ∷ xs) k d
    all zero d within = least_from-below x xs
    all (suc k) d within = let inner : k < length xs = omega (arith, within) in least_from-all x xs k d inner
