use Rattle.std.proofs.lemmas.Grind.{common_steps}
use Rattle.std.proofs.Common.{arith}
use Rattle.cql_eval.proofs.evaluate.answer_shared.Goals as goal

pub returns : goal.returns
returns g c = grind (arith, common_steps)

pub new-requires-2 : goal.new-requires-2
new-requires-2 g c = grind (arith, common_steps)
