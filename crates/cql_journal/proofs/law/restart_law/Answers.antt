use Rattle.cql_journal.proofs.Restarting.{restart_law}
use Rattle.cql_journal.proofs.law.restart_law.Goals as goal

pub returns : goal.returns
returns c = restart_law c.solo_law.ensures c.recorded_law.ensures
