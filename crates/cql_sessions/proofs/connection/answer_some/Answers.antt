use Rattle.std.proofs.lemmas.Grind.{common_steps}
use Rattle.std.proofs.Common.{arith}
use Rattle.cql_sessions.proofs.connection.answer_some.Goals as goal

pub loop-line-preserved : goal.loop-line-preserved
loop-line-preserved g c = grind (arith, common_steps)

pub overflow_add-used : goal.overflow_add-used
overflow_add-used g c = grind (arith, common_steps)

pub returns-then-ne : goal.returns-then-ne
returns-then-ne g c = grind (arith, common_steps)
