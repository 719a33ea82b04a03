use Rattle.std.proofs.Common.{◌≡◌, List, length, drop}
use Rattle.cql_value.specs.declared.schema.ColumnType.{ColumnType}
use Rattle.cql_plan.specs.Ports.{columns_from}
use Rattle.cql_plan.proofs.plan.are_columns.Given as goal

-- if the items that are left are the rest of the columns, all of them are all
abbrev pub invariant-loop-index : goal.invariant-loop-index
invariant-loop-index l = (columns : List ColumnType) → length columns ≡ l.many → drop l.index l.items ≡ columns_from l.index (drop l.index columns) → l.items ≡ columns_from 0 columns
