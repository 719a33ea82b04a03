use Rattle.std.proofs.lemmas.Grind.{common_steps}
use Rattle.std.proofs.Common.{arith}
use Rattle.cql_algebra.proofs.sum.total_of.Goals as goal

pub loop-row-preserved : goal.loop-row-preserved
loop-row-preserved c = grind (arith, common_steps)

pub overflow_add-sum : goal.overflow_add-sum
overflow_add-sum c = grind (arith, common_steps)

pub share_of-sum-requires : goal.share_of-sum-requires
share_of-sum-requires c = grind (arith, common_steps)
