-- The last row of a bag.
use Rattle.std.proofs.Common.{◌≡◌, ℕ, List, [], ◌∷◌, ◌++◌, slice_get, refl, ap, ◌∙◌}
use Rattle.cql_value.specs.declared.value.Value.{Value}
use Rattle.cql_bag.specs.Bag.{Counts}
use Rattle.cql_algebra.specs.GroupChanges.{last_of}

at_end : (front : Counts) (e : List Value × ℕ) → last_of (front ++ e ∷ []) ≡ slice_get e.0 0
at_end [] e = refl
at_end (x ∷ []) e = refl
at_end (x ∷ (y ∷ front)) e = at_end (y ∷ front) e

pub last_is : (rows front : Counts) (e : List Value × ℕ) → rows ≡ front ++ e ∷ [] → last_of rows ≡ slice_get e.0 0
last_is rows front e h = ap last_of h ∙ at_end front e
