use Rattle.cql_plan.specs.Typing.{shown_of}
use Rattle.std.proofs.lemmas.Grind.{common_steps}
use Rattle.std.proofs.Common.{arith}
use Rattle.cql_plan.proofs.item.shown_of.Goals as goal

pub returns-in_ok-aggregate_of-in-Aggregate : goal.returns-in_ok-aggregate_of-in-Aggregate
unfolding shown_of
returns-in_ok-aggregate_of-in-Aggregate c = grind (arith, common_steps)

pub returns-then-not-is_grouped_by : goal.returns-then-not-is_grouped_by
unfolding shown_of
returns-then-not-is_grouped_by c = grind (arith, common_steps)

pub returns-else-grouped : goal.returns-else-grouped
unfolding shown_of
returns-else-grouped c = grind (arith, common_steps)
