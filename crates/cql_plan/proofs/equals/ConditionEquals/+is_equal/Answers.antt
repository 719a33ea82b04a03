use Rattle.std.proofs.lemmas.Grind.{common_steps}
use Rattle.std.proofs.Common.{arith}
use Rattle.cql_plan.proofs.equals.ConditionEquals.+is_equal.Goals as goal

pub returns-else-eq : goal.returns-else-eq
returns-else-eq t c = grind (arith, common_steps)

pub returns-in-Always-other : goal.returns-in-Always-other
returns-in-Always-other t c = grind (arith, common_steps)

pub returns-in_default : goal.returns-in_default
returns-in_default t c = grind (arith, common_steps)

pub returns-in_default-other : goal.returns-in_default-other
returns-in_default-other t c = grind (arith, common_steps)

pub returns-in_default-other-2 : goal.returns-in_default-other-2
returns-in_default-other-2 t c = grind (arith, common_steps)

pub returns-in_default-other-3 : goal.returns-in_default-other-3
returns-in_default-other-3 t c = grind (arith, common_steps)

pub returns-in_default-other-4 : goal.returns-in_default-other-4
returns-in_default-other-4 t c = grind (arith, common_steps)

pub returns-then-eq : goal.returns-then-eq
returns-then-eq t c = grind (arith, common_steps)
