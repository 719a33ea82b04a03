use Rattle.std.proofs.lemmas.Grind.{common_steps}
use Rattle.std.proofs.Common.{arith}
use Rattle.cql_plan.proofs.equals.BranchEquals.is_equal.Goals as goal

pub returns-then-is_equal-2 : goal.returns-then-is_equal-2
returns-then-is_equal-2 c = grind (arith, common_steps)
