use Rattle.cql_core.proofs.Limits.{limit_law}
use Rattle.cql_core.proofs.meaning_law.limit_law.Goals as goal

pub returns : goal.returns
returns c = limit_law
