use Rattle.std.proofs.Common.{rules}
use Rattle.cql_plan.specs.Typing.{items_of}
use Rattle.cql_plan.proofs.item.items_of.Goals as goal

pub returns-then-grouped : goal.returns-then-grouped
unfolding items_of
returns-then-grouped c = search rules

pub returns-in_ok-all_items-in-All : goal.returns-in_ok-all_items-in-All
unfolding items_of
returns-in_ok-all_items-in-All c = search rules
