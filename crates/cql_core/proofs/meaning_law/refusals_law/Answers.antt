use Rattle.cql_core.proofs.Refusals.{refusals_law}
use Rattle.cql_core.proofs.meaning_law.refusals_law.Goals as goal

pub returns : goal.returns
returns c = refusals_law
