-- The limit of a query.
use Rattle.std.proofs.Common.{◌≡◌, ◌⊎◌, inl, inr, ℕ, ◌≤◌, Bool, true, false, List, [], ◌∷◌, min, refl, ◌∙◌, arith}
use Rattle.std.specs.Prelude.{nat_le}
use Rattle.std.specs.List.{AllByRecursion}
use Rattle.std.proofs.lemmas.Bool.Decides.{nat_tests}
use Rattle.cql_core.specs.StreamId.{StreamId}
use Rattle.cql_core.specs.Bound.{BoundInput}
use Rattle.cql_core.specs.Checks.{limit_over}
use Rattle.cql_core.specs.Law.{IsOpenOf, IsLimitLaw}

module _ (f : StreamId → ℕ) where
  below_more : (n m : ℕ) → m ≤ n → (is : List BoundInput) → AllByRecursion (λ i. n ≤ f i.stream_id) is → AllByRecursion (λ i. m ≤ f i.stream_id) is
  below_more n m le [] h = h
  below_more n m le (i ∷ is) h = (omega (arith, le, h.0), below_more n m le is h.1)

  below : (is : List BoundInput) → AllByRecursion (λ i. limit_over f is ≤ f i.stream_id) is
  below [] = tt
  below (i ∷ []) = (omega arith, tt)
  below (i ∷ j ∷ is) = (omega arith, below_more (limit_over f (j ∷ is)) (limit_over f (i ∷ j ∷ is)) (omega arith) (j ∷ is) (below (j ∷ is)))

  open_of_same : (n m : ℕ) → n ≡ m → (is : List BoundInput) → IsOpenOf f n is → IsOpenOf f m is
  open_of_same n m e [] h = h
  open_of_same n m e (i ∷ is) (inl h) = inl (h ∙ e)
  open_of_same n m e (i ∷ is) (inr h) = inr (open_of_same n m e is h)

  min_by : (a b n : ℕ) → n ≡ min a b → (c : Bool) → nat_le a b ≡ c → (a ≡ n) ⊎ (b ≡ n)
  min_by a b n e true le = inl (grind (arith, nat_tests))
  min_by a b n e false le = inr (grind (arith, nat_tests))

  some_of : (i : BoundInput) (is : List BoundInput) (m n : ℕ) → (f i.stream_id ≡ n) ⊎ (m ≡ n) → IsOpenOf f m is → IsOpenOf f n (i ∷ is)
  some_of i is m n (inl e) h = inl e
  some_of i is m n (inr e) h = inr (open_of_same m n e is h)

  attained : (i : BoundInput) (is : List BoundInput) → IsOpenOf f (limit_over f (i ∷ is)) (i ∷ is)
  attained i [] = inl refl
  attained i (j ∷ is) = some_of i (j ∷ is) (limit_over f (j ∷ is)) (limit_over f (i ∷ j ∷ is)) (min_by (f i.stream_id) (limit_over f (j ∷ is)) _ refl _ refl) (attained j is)

  some_open : (is : List BoundInput) → (is ≡ []) ⊎ IsOpenOf f (limit_over f is) is
  some_open [] = inl refl
  some_open (i ∷ is) = inr (attained i is)

pub limit_law : IsLimitLaw
limit_law f inputs = (below f inputs, some_open f inputs)
