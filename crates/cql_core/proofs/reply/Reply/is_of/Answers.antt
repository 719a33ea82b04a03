use Rattle.std.proofs.lemmas.Grind.{common_steps}
use Rattle.std.proofs.Common.{arith}
use Rattle.cql_core.proofs.reply.Reply.is_of.Goals as goal

pub returns-in-Blocks : goal.returns-in-Blocks
returns-in-Blocks c = grind (arith, common_steps)

pub returns-in-Done : goal.returns-in-Done
returns-in-Done c = grind (arith, common_steps)

pub returns-in_default : goal.returns-in_default
returns-in_default c = grind (arith, common_steps)
