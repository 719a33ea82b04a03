use Rattle.std.proofs.Common.{◌≡◌, take}
use Rattle.cql_window.specs.Projection.{projected}
use Rattle.cql_window.proofs.through.wide_columns.Given as goal

-- where the columns so far stand in the whole row
abbrev pub invariant-loop-column : goal.invariant-loop-column
invariant-loop-column l = l.wide ≡ projected l.projection (take l.column-index l.columns)
