use Rattle.std.proofs.lemmas.Grind.{common_steps}
use Rattle.std.proofs.Common.{arith}
use Rattle.cql_ops.proofs.bench.first_wrong.Goals as goal

pub loop-i-preserved : goal.loop-i-preserved
loop-i-preserved g c = grind (arith, common_steps)

pub returns-then-boxes-eq7 : goal.returns-then-boxes-eq7
returns-then-boxes-eq7 g c = grind (arith, common_steps)
