use Rattle.std.proofs.Common.{◌≡◌, drop}
use Rattle.cql_algebra.specs.Shape.{all_are, is_count}
use Rattle.cql_groups.proofs.group_shape.only_counts.Given as goal

-- the items that are left decide
abbrev pub invariant-loop-item : goal.invariant-loop-item
invariant-loop-item l = all_are is_count (drop l.item-index l.items) ≡ all_are is_count l.items
