use Rattle.std.proofs.Common.{◌≡◌, Some, map, drop}
use Rattle.cql_algebra.specs.Shape.{item_value, items_on, all_of}
use Rattle.cql_plain.proofs.items.are_columns.Given as goal

-- if the items that are left give the rest of the row, all of them give the row
abbrev pub invariant-loop-index : goal.invariant-loop-index
invariant-loop-index l = all_of (map (item_value l.row) (drop l.index l.items)) ≡ Some (drop l.index l.row) → items_on l.items l.row ≡ Some l.row
