use Rattle.std.proofs.Common.{◌≡◌, drop}
use Rattle.cql_plan.specs.Outcome.{each}
use Rattle.cql_plan.specs.Typing.{item_of}
use Rattle.cql_plan.proofs.Each.{after}
use Rattle.cql_plan.proofs.item.listed_items.Given as goal

abbrev pub invariant-loop-item : goal.invariant-loop-item
invariant-loop-item l = each (item_of l.fields l.grouped l.groups) l.written ≡ after l.items.items (each (item_of l.fields l.grouped l.groups) (drop l.item-index l.written))
