use Rattle.std.proofs.Common.{◌≡◌, map, drop}
use Rattle.cql_algebra.specs.Shape.{item_value, items_on, all_of}
use Rattle.cql_plain.proofs.Behind.{behind}
use Rattle.cql_plain.proofs.items.computed.Given as goal

-- the values so far and the items that are left
abbrev pub invariant-loop-item : goal.invariant-loop-item
invariant-loop-item l = behind l.values.items (all_of (map (item_value l.row) (drop l.item-index l.items))) ≡ items_on l.items l.row
