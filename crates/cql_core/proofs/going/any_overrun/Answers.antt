use Rattle.std.proofs.lemmas.Grind.{common_steps}
use Rattle.std.proofs.Common.{arith}
use Rattle.cql_core.proofs.going.any_overrun.Goals as goal

pub returns : goal.returns
returns c = grind (arith, common_steps)

pub returns-then-is_overrun : goal.returns-then-is_overrun
returns-then-is_overrun c = grind (arith, common_steps)
