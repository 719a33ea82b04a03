use Rattle.std.proofs.Common.{◌≡◌, drop}
use Rattle.cql_plan.specs.Outcome.{each}
use Rattle.cql_plan.specs.Sources.{part_column}
use Rattle.cql_plan.proofs.Each.{after}
use Rattle.cql_plan.proofs.source.part_columns.Given as goal

abbrev pub invariant-loop-name : goal.invariant-loop-name
invariant-loop-name l = each (part_column l.fields) l.names ≡ after l.columns (each (part_column l.fields) (drop l.name-index l.names))
