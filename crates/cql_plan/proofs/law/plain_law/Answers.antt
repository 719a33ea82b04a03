use Rattle.cql_plan.proofs.PlainPlans.{plain_law}
use Rattle.cql_plan.proofs.law.plain_law.Goals as goal

pub returns : goal.returns
returns c = plain_law
