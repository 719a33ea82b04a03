use Rattle.std.proofs.Common.{arith}
use Rattle.std.proofs.lemmas.Grind.{common_steps}
use Rattle.cql_sessions.proofs.in_hand.Taking.fill.Goals as goal

pub returns-else-fill-clause-told : goal.returns-else-fill-clause-told
returns-else-fill-clause-told c = grind (arith, common_steps)
