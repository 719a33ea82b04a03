use Rattle.std.proofs.Common.{◌≡◌, map, drop}
use Rattle.cql_algebra.specs.Shape.{item_over, items_over, all_of}
use Rattle.cql_plain.proofs.Behind.{behind}
use Rattle.cql_plain.proofs.group.row_of_group.Given as goal

-- the values so far and the items that are left
abbrev pub invariant-loop-item : goal.invariant-loop-item
invariant-loop-item l = behind l.values.items (all_of (map (item_over l.group) (drop l.item-index l.items))) ≡ items_over l.items l.group
