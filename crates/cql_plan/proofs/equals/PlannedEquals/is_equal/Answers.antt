use Rattle.std.proofs.lemmas.Grind.{common_steps}
use Rattle.std.proofs.Common.{arith}
use Rattle.cql_plan.proofs.equals.PlannedEquals.is_equal.Goals as goal

pub returns-then-is_equal-3 : goal.returns-then-is_equal-3
returns-then-is_equal-3 c = grind (arith, common_steps)
