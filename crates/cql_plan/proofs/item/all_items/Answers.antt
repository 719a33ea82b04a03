use Rattle.std.proofs.lemmas.Grind.{common_steps}
use Rattle.std.proofs.Common.{arith}
use Rattle.cql_plan.specs.Typing.{all_items}
use Rattle.cql_plan.proofs.item.all_items.Goals as goal

pub loop-column-preserved : goal.loop-column-preserved
unfolding all_items
loop-column-preserved c = grind (arith, common_steps)

pub returns : goal.returns
unfolding all_items
returns c = grind (arith, common_steps)
