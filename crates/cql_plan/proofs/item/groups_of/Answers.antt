use Rattle.std.proofs.lemmas.Grind.{common_steps}
use Rattle.std.proofs.Common.{arith}
use Rattle.cql_plan.proofs.Each.{stops, goes_on, ends}
use Rattle.cql_plan.proofs.item.groups_of.Goals as goal

pub loop-column-preserved : goal.loop-column-preserved
loop-column-preserved c = grind (arith, common_steps, stops, goes_on, ends)

pub returns-in_err-group_of : goal.returns-in_err-group_of
returns-in_err-group_of c = grind (arith, stops, goes_on, ends)

pub returns : goal.returns
returns c = grind (arith, stops, goes_on, ends)
