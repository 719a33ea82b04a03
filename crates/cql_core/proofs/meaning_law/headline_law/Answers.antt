use Rattle.cql_core.proofs.Histories.{headline_law}
use Rattle.cql_core.proofs.meaning_law.headline_law.Goals as goal

pub returns : goal.returns
returns c = headline_law
