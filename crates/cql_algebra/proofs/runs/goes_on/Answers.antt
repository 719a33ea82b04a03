use Rattle.std.proofs.lemmas.Grind.{common_steps}
use Rattle.std.proofs.Common.{arith}
use Rattle.cql_algebra.proofs.runs.goes_on.Goals as goal

pub returns-then-from-last-eq1 : goal.returns-then-from-last-eq1
returns-then-from-last-eq1 c = grind (arith, common_steps)

pub returns-else-from-last-eq1 : goal.returns-else-from-last-eq1
returns-else-from-last-eq1 c = grind (arith, common_steps)

pub returns-in-None : goal.returns-in-None
returns-in-None c = grind (arith, common_steps)
