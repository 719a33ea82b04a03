use Rattle.cql_plan.proofs.Qualified.{qualified_law}
use Rattle.cql_plan.proofs.law.qualified_law.Goals as goal

pub returns : goal.returns
returns c = qualified_law
