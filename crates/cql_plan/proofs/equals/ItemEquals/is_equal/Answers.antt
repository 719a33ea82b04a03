use Rattle.std.proofs.lemmas.Grind.{common_steps}
use Rattle.std.proofs.Common.{arith}
use Rattle.cql_plan.proofs.equals.ItemEquals.is_equal.Goals as goal

pub returns-in-Max-Max : goal.returns-in-Max-Max
returns-in-Max-Max c = grind (arith, common_steps)

pub returns-in-Min-Min : goal.returns-in-Min-Min
returns-in-Min-Min c = grind (arith, common_steps)

pub returns-in-Sum-Sum : goal.returns-in-Sum-Sum
returns-in-Sum-Sum c = grind (arith, common_steps)

pub returns-in_default : goal.returns-in_default
returns-in_default c = grind (arith, common_steps)

pub returns-in_default-2 : goal.returns-in_default-2
returns-in_default-2 c = grind (arith, common_steps)

pub returns-in_default-3 : goal.returns-in_default-3
returns-in_default-3 c = grind (arith, common_steps)

pub returns-in_default-4 : goal.returns-in_default-4
returns-in_default-4 c = grind (arith, common_steps)

pub returns-in_default-5 : goal.returns-in_default-5
returns-in_default-5 c = grind (arith, common_steps)
