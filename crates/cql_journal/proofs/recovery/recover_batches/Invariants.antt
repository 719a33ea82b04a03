-- The batches so far are taken.
use Rattle.std.specs.Io.KnownBytes.{prepend_known}
use Rattle.cql_lines.specs.Watched.{inner_of}
use Rattle.cql_journal.specs.Recovered.{Recovering}
use Rattle.cql_journal.proofs.recovery.recover_batches.Given as goal

abbrev pub invariant-loop-batches : goal.invariant-loop-batches
invariant-loop-batches g l = Recovering l.fn.table (prepend_known l.fn.ahead (g.R.Read.remaining (inner_of l.fn.reader))) (prepend_known l.ahead (g.R.Read.remaining (inner_of l.reader))) l.batches (g.M.StateMachine.state l.machine) l.place
