use Rattle.std.proofs.lemmas.Grind.{common_steps}
use Rattle.std.proofs.Common.{arith}
use Rattle.cql_plain.proofs.shape_copy.copy_of_item.Goals as goal

pub returns-in-Max : goal.returns-in-Max
returns-in-Max c = grind (arith, common_steps)

pub returns-in-Min : goal.returns-in-Min
returns-in-Min c = grind (arith, common_steps)

pub returns-in-Sum : goal.returns-in-Sum
returns-in-Sum c = grind (arith, common_steps)

pub returns-in_ok-copy_of_expr-in-Value : goal.returns-in_ok-copy_of_expr-in-Value
returns-in_ok-copy_of_expr-in-Value c = grind (arith, common_steps)
