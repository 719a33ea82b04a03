use Rattle.cql_core.proofs.Histories.{machine_law}
use Rattle.cql_core.proofs.meaning_law.machine_law.Goals as goal

pub returns : goal.returns
returns c = machine_law
