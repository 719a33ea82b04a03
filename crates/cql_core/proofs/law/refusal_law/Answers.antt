use Rattle.cql_core.specs.Cql.{cql}
use Rattle.cql_core.proofs.law.refusal_law.Goals as goal

pub returns : goal.returns
returns c = (c.refusals_law.ensures cql).0
