use Rattle.std.proofs.lemmas.Grind.{common_steps}
use Rattle.std.proofs.Common.{arith}
use Rattle.cql_plain.proofs.group.best_of.Goals as goal

pub loop-row-preserved-else-goes_first : goal.loop-row-preserved-else-goes_first
loop-row-preserved-else-goes_first c = grind (arith, common_steps)

pub loop-row-preserved-then-goes_first : goal.loop-row-preserved-then-goes_first
loop-row-preserved-then-goes_first c = grind (arith, common_steps)
