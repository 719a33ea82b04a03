use Rattle.std.proofs.Common.{◌≡◌, length, map}
use Rattle.cql_value.specs.declared.schema.Column.{Column}
use Rattle.cql_tenants.proofs.equals.have_same_names.Given as goal

-- the names are equal exactly where those that are left are
abbrev pub invariant-loop-x : goal.invariant-loop-x
invariant-loop-x l =
    (map (λ (c : Column). c.name) l.a ≡ map (λ (c : Column). c.name) l.b → map (λ (c : Column). c.name) l.left ≡ map (λ (c : Column). c.name) l.right)
    × (map (λ (c : Column). c.name) l.left ≡ map (λ (c : Column). c.name) l.right → map (λ (c : Column). c.name) l.a ≡ map (λ (c : Column). c.name) l.b)

abbrev pub decreases-loop-x : goal.decreases-loop-x
decreases-loop-x l = length l.left
