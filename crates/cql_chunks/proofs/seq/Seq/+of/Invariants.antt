use Rattle.std.proofs.Common.{length}
use Rattle.cql_chunks.proofs.seq.Seq.+of.Given as goal

abbrev pub decreases-of : goal.decreases-of
decreases-of l = length l.rows.now
