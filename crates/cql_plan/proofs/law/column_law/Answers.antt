use Rattle.cql_plan.proofs.Meant.{column_law}
use Rattle.cql_plan.proofs.law.column_law.Goals as goal

pub returns : goal.returns
returns c = column_law
