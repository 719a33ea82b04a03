use Rattle.std.proofs.lemmas.Grind.{common_steps}
use Rattle.std.proofs.Common.{arith}
use Rattle.cql_algebra.proofs.runs.adjoins.Goals as goal

pub returns-in-None : goal.returns-in-None
returns-in-None c = grind (arith, common_steps)

pub returns-then-last-from : goal.returns-then-last-from
returns-then-last-from c = grind (arith, common_steps)

pub returns-else-last-from : goal.returns-else-last-from
returns-else-last-from c = grind (arith, common_steps)
