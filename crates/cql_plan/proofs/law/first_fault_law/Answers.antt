use Rattle.cql_plan.proofs.Firsts.{first_fault_law}
use Rattle.cql_plan.proofs.law.first_fault_law.Goals as goal

pub returns : goal.returns
returns c = first_fault_law
