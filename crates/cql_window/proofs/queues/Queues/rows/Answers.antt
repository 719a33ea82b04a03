use Rattle.std.proofs.lemmas.Grind.{common_steps}
use Rattle.std.proofs.Common.{arith}
use Rattle.cql_window.proofs.queues.Queues.rows.Goals as goal

pub loop-newest-preserved : goal.loop-newest-preserved
loop-newest-preserved c = grind (arith, common_steps)
