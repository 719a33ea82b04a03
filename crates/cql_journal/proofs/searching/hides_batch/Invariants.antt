-- No batch begins in what was taken.
use Rattle.std.specs.Io.KnownBytes.{prepend_known}
use Rattle.cql_lines.specs.Watched.{inner_of}
use Rattle.cql_journal.specs.Hidden.{Searching}
use Rattle.cql_journal.proofs.searching.hides_batch.Given as goal

abbrev pub invariant-loop : goal.invariant-loop
invariant-loop g l = Searching (prepend_known l.fn.ahead (g.R.Read.remaining (inner_of l.fn.reader))) (prepend_known l.ahead (g.R.Read.remaining (inner_of l.reader))) l.counter
