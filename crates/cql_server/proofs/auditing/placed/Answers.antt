use Rattle.std.proofs.lemmas.Grind.{common_steps}
use Rattle.std.proofs.Common.{arith}
use Rattle.cql_server.proofs.auditing.placed.Goals as goal

pub loop-list-preserved : goal.loop-list-preserved
loop-list-preserved c = grind (arith, common_steps)
