use Rattle.std.proofs.Common.{◌≡◌, drop}
use Rattle.cql_window.specs.Once.{once, once_from}
use Rattle.cql_window.proofs.parts.once_each.Given as goal

abbrev pub invariant-loop-column : goal.invariant-loop-column
invariant-loop-column l = once_from l.kept (drop l.column-index l.columns) ≡ once l.columns
