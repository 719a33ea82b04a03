use Rattle.cql_journal.proofs.Batches.{one_reading_law}
use Rattle.cql_journal.proofs.law.one_reading_law.Goals as goal

pub returns : goal.returns
returns c = one_reading_law
