use Rattle.std.proofs.lemmas.Grind.{common_steps}
use Rattle.std.proofs.Common.{arith}
use Rattle.cql_value.proofs.try_clone.copies_of.Goals as goal

pub loop-value-preserved : goal.loop-value-preserved
loop-value-preserved g c = grind (arith, common_steps)

pub returns : goal.returns
returns g c = grind (arith, common_steps)
