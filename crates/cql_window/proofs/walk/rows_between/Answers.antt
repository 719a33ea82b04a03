use Rattle.std.proofs.lemmas.Grind.{common_steps}
use Rattle.std.proofs.Common.{arith}
use Rattle.cql_window.proofs.walk.rows_between.Goals as goal

pub new-row-items-requires : goal.new-row-items-requires
new-row-items-requires c = grind (arith, common_steps)

pub loop-row-preserved : goal.loop-row-preserved
loop-row-preserved c = grind (arith, common_steps)
