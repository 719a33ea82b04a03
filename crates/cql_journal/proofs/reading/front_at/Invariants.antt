-- The records so far stand at the front, and what is to come is what it was.
use Rattle.std.proofs.Common.{◌≤◌, ◌+◌, ◌-◌, ◌*◌, length}
use Rattle.std.specs.Io.KnownBytes.{Keeps, prepend_known}
use Rattle.cql_lines.specs.Watched.{inner_of}
use Rattle.cql_journal.specs.Reading.{StartsRecords}
use Rattle.cql_journal.proofs.reading.front_at.Given as goal

abbrev pub invariant-loop-more : goal.invariant-loop-more
invariant-loop-more g l = record {
  records : StartsRecords l.chain l.size l.ahead;
  kept : Keeps (prepend_known l.fn.ahead (g.R.Read.remaining (inner_of l.fn.reader))) (prepend_known l.ahead (g.R.Read.remaining (inner_of l.reader)));
  room : length l.ahead ≤ length l.fn.ahead + 16842752;
}

abbrev pub decreases-loop-more : goal.decreases-loop-more
decreases-loop-more g l = 2 * (length l.fn.ahead + 16842752) - length l.ahead - l.size
