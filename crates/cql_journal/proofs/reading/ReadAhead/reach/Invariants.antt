-- What is to come is what it was.
use Rattle.std.proofs.Common.{◌-◌, length}
use Rattle.std.specs.Io.KnownBytes.{Keeps, prepend_known}
use Rattle.cql_lines.specs.Watched.{inner_of}
use Rattle.cql_journal.proofs.reading.ReadAhead.reach.Given as goal

abbrev pub invariant-loop-self : goal.invariant-loop-self
invariant-loop-self g l = Keeps (prepend_known l.fn.self (g.R.Read.remaining (inner_of l.fn.reader))) (prepend_known l.self (g.R.Read.remaining (inner_of l.reader)))

abbrev pub decreases-loop-self : goal.decreases-loop-self
decreases-loop-self g l = l.fn.count - length l.self
