use Rattle.cql_core.proofs.WithinQuotas.{quotas_law}
use Rattle.cql_core.proofs.law.quotas_law.Goals as goal

pub returns : goal.returns
returns c = quotas_law c.read_law.ensures
