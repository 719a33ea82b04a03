use Rattle.std.proofs.Common.{◌≡◌, ◌++◌, drop}
use Rattle.cql_plan.specs.Columns.{meant}
use Rattle.cql_plan.proofs.Finding.{found_list}
use Rattle.cql_plan.proofs.row.column_named.Given as goal

-- what is meant is what was found and what the columns left may give
abbrev pub invariant-loop-column : goal.invariant-loop-column
invariant-loop-column l = meant l.qualifier l.name 0 l.fields ≡ found_list l.found ++ meant l.qualifier l.name l.column (drop l.column l.fields)
