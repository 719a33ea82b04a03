use Rattle.std.proofs.lemmas.Grind.{common_steps}
use Rattle.std.proofs.Common.{arith}
use Rattle.cql_plan.proofs.equals.ExprEquals.+is_equal.Goals as goal

pub returns-in-Column-Column : goal.returns-in-Column-Column
returns-in-Column-Column t c = grind (arith, common_steps)

pub returns-in-Constant-Constant : goal.returns-in-Constant-Constant
returns-in-Constant-Constant t c = grind (arith, common_steps)

pub returns-in_default : goal.returns-in_default
returns-in_default t c = grind (arith, common_steps)

pub returns-in_default-2 : goal.returns-in_default-2
returns-in_default-2 t c = grind (arith, common_steps)

pub returns-in_default-3 : goal.returns-in_default-3
returns-in_default-3 t c = grind (arith, common_steps)
