use Rattle.std.proofs.lemmas.Grind.{common_steps}
use Rattle.std.proofs.Common.{arith}
use Rattle.cql_eval.proofs.pin.Pin.has_plan_of.Goals as goal

pub returns-then-self-other : goal.returns-then-self-other
returns-then-self-other c = grind (arith, common_steps)

pub returns-else-self-other : goal.returns-else-self-other
returns-else-self-other c = grind (arith, common_steps)
