-- Of several checks the first fault is told.
use Rattle.std.proofs.Common.{◌≡◌, ◌<◌, ℕ, zero, suc, List, [], ◌∷◌, refl, ap, ◌∙◌, sym, arith}
use Rattle.std.specs.Prelude.{Some, Ok, Err, slice_get}
use Rattle.cql_plan.specs.Outcome.{Outcome, ◌>>=◌, each}
use Rattle.cql_plan.specs.Sources.{source_of}
use Rattle.cql_plan.specs.Typing.{group_of, item_of}
use Rattle.cql_plan.specs.Law.{IsFirst, IsFirstFaultLaw}

-- the first passes, and so do those before a later one
before_next : {A B : Type 0} (check : A → Outcome B) (x : A) (y : B) (xs : List A) (i : ℕ) → check x ≡ Ok y
    → ((j : ℕ) (before : A) → j < i → slice_get xs j ≡ Some before → (z : B) × (check before ≡ Ok z))
    → (j : ℕ) (before : A) → j < suc i → slice_get (x ∷ xs) j ≡ Some before → (z : B) × (check before ≡ Ok z)
before_next check x y xs i same rest zero before below at = let one : x ≡ before = cc in (y, ap check (sym one) ∙ same)
before_next check x y xs i same rest (suc j) before below at = rest j before (omega arith) at

-- the first gives the first
all_next : {A B : Type 0} (check : A → Outcome B) (x : A) (y : B) (xs : List A) (ys : List B) → check x ≡ Ok y
    → ((i : ℕ) (z : A) → slice_get xs i ≡ Some z → (w : B) × (slice_get ys i ≡ Some w) × (check z ≡ Ok w))
    → (i : ℕ) (z : A) → slice_get (x ∷ xs) i ≡ Some z → (w : B) × (slice_get (y ∷ ys) i ≡ Some w) × (check z ≡ Ok w)
all_next check x y xs ys same rest zero z at = let one : x ≡ z = cc in (y, refl, ap check (sym one) ∙ same)
all_next check x y xs ys same rest (suc i) z at = rest i z at

next_first : {A B : Type 0} (check : A → Outcome B) (x : A) (xs : List A) (o : Outcome B) → check x ≡ o → (r : Outcome (List B)) → IsFirst check xs r
    → IsFirst check (x ∷ xs) (o >>= (λ y. r >>= (λ ys. Ok (y ∷ ys))))
next_first check x xs (Err e) same r rest = (0, x, refl, same, λ j before below at. absurd (omega arith))
next_first check x xs (Ok y) same (Err e) rest = (suc rest.0, rest.1, rest.2, rest.3, before_next check x y xs rest.0 same rest.4)
next_first check x xs (Ok y) same (Ok ys) rest = (ap (λ n. suc n) rest.0, all_next check x y xs ys same rest.1)

each_first : {A B : Type 0} (check : A → Outcome B) (xs : List A) → IsFirst check xs (each check xs)
unfolding each
each_first check [] = (refl, λ i x at. absurd (cc))
each_first check (x ∷ xs) = next_first check x xs (check x) refl (each check xs) (each_first check xs)

pub first_fault_law : IsFirstFaultLaw
first_fault_law = (
  (λ readable inputs. each_first (source_of readable) inputs),
  (λ fields columns. each_first (group_of fields) columns),
  (λ fields grouped groups items. each_first (item_of fields grouped groups) items),
)
