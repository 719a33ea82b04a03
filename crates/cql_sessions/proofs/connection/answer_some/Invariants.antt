use Rattle.std.proofs.Common.{◌≤◌, length}
use Rattle.cql_sessions.proofs.connection.answer_some.Given as goal

abbrev pub invariant-loop-line : goal.invariant-loop-line
invariant-loop-line g l = record {
  within : l.used ≤ length l.bytes;
}
