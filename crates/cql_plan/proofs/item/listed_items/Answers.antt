use Rattle.std.proofs.lemmas.Grind.{common_steps}
use Rattle.std.proofs.Common.{arith}
use Rattle.cql_plan.proofs.Each.{stops, goes_on, ends}
use Rattle.cql_plan.proofs.item.listed_items.Goals as goal

pub loop-item-preserved : goal.loop-item-preserved
loop-item-preserved c = grind (arith, common_steps, stops, goes_on, ends)

pub returns : goal.returns
returns c = grind (arith, common_steps, stops, goes_on, ends)

pub returns-in_err-shown_of : goal.returns-in_err-shown_of
returns-in_err-shown_of c = grind (arith, stops, goes_on, ends)
