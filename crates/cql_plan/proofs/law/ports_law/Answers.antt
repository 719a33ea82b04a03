use Rattle.cql_plan.proofs.Ports.{ports_law}
use Rattle.cql_plan.proofs.law.ports_law.Goals as goal

pub returns : goal.returns
returns c = ports_law
