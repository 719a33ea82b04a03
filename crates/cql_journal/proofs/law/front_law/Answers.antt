use Rattle.cql_journal.proofs.Batches.{front_law}
use Rattle.cql_journal.proofs.law.front_law.Goals as goal

pub returns : goal.returns
returns c = front_law
