-- Whether others wait, by how many owners stand in the order.
use Rattle.std.proofs.Common.{◌≡◌, ℕ, ◌<◌, ◌≤◌, Bool, true, false, not, List, [], ◌∷◌, length, ap, sym, refl, arith, slice_index_or}
use Rattle.std.specs.Prelude.{◌==◌}
use Rattle.cql_connections.specs.Queues.{is_alone}

pub many_wait : (owner : ℕ) (order : List ℕ) → 1 < length order → is_alone owner order ≡ false
unfolding is_alone
many_wait owner [] many = absurd (omega arith)
many_wait owner (x ∷ []) many = absurd (omega arith)
many_wait owner (x ∷ (y ∷ order)) many = refl

pub one_waits : (owner : ℕ) (order : List ℕ) (first : ℕ) → length order ≤ 1 → 0 < length order → first ≡ slice_index_or order 0 first → is_alone owner order ≡ (first == owner)
unfolding is_alone
one_waits owner [] first few some is = absurd (omega arith)
one_waits owner (x ∷ []) first few some is = ap (λ y. y == owner) (sym is)
one_waits owner (x ∷ (y ∷ order)) first few some is = absurd (omega arith)

pub none_wait : (owner : ℕ) (order : List ℕ) → length order ≤ 0 → is_alone owner order ≡ true
unfolding is_alone
none_wait owner [] none = refl
none_wait owner (x ∷ order) none = absurd (omega arith)
