use Rattle.std.proofs.lemmas.Grind.{common_steps}
use Rattle.std.proofs.Common.{arith}
use Rattle.cql_groups.proofs.accumulator.new_parts.Goals as goal

pub returns : goal.returns
returns c = grind (arith, common_steps)

pub loop-one-preserved : goal.loop-one-preserved
loop-one-preserved c = grind (arith, common_steps)
