use Rattle.std.proofs.lemmas.Grind.{common_steps}
use Rattle.std.proofs.Common.{arith}
use Rattle.cql_asked.proofs.command.row_of.Goals as goal

pub loop-item-preserved : goal.loop-item-preserved
loop-item-preserved c = grind (arith, common_steps)

pub returns-in_err-value_of : goal.returns-in_err-value_of
returns-in_err-value_of c = grind (arith, common_steps)

pub returns : goal.returns
returns c = grind (arith, common_steps)
