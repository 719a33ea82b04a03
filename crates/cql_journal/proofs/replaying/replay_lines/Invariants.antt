-- The records so far were replayed.
use Rattle.std.proofs.Common.{length}
use Rattle.cql_journal.specs.Recovery.{Replaying}
use Rattle.cql_journal.proofs.replaying.replay_lines.Given as goal

abbrev pub invariant-loop-line : goal.invariant-loop-line
invariant-loop-line g l = Replaying l.fn.table l.fn.chain l.fn.lines l.rest (g.M.StateMachine.state l.fn.machine) (g.M.StateMachine.state l.machine) l.fn.count l.counts

abbrev pub decreases-loop-line : goal.decreases-loop-line
decreases-loop-line g l = length l.rest
