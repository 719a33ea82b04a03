use Rattle.cql_journal.proofs.Batches.{append_law}
use Rattle.cql_journal.proofs.law.append_law.Goals as goal

pub returns : goal.returns
returns c = append_law
