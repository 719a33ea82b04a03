use Rattle.std.proofs.Common.{take}
use Rattle.std.specs.List.{AllByRecursion}
use Rattle.cql_plan.specs.Fit.{HasColumn}
use Rattle.cql_groups.specs.Keyed.{IsKeyedItem}
use Rattle.cql_groups.proofs.group_shape.is_keyed.Given as goal

-- the grouped columns so far are there
abbrev pub invariant-loop-column : goal.invariant-loop-column
invariant-loop-column l = AllByRecursion (HasColumn l.shape.columns) (take l.column-index l.groups)

-- the items so far are kept by the keys
abbrev pub invariant-loop-item : goal.invariant-loop-item
invariant-loop-item l = AllByRecursion (IsKeyedItem l.shape.columns l.shape.groups) (take l.item-index l.item-items)
