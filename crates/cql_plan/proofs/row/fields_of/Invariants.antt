use Rattle.std.proofs.Common.{◌≡◌, take, map}
use Rattle.cql_plan.specs.Columns.{field_of}
use Rattle.cql_plan.proofs.row.fields_of.Given as goal

abbrev pub invariant-loop-column : goal.invariant-loop-column
invariant-loop-column l = l.fields ≡ map (field_of l.alias) (take l.column-index l.columns)
