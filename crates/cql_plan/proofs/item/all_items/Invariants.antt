use Rattle.std.proofs.Common.{◌≡◌, ◌++◌, drop}
use Rattle.cql_plan.specs.Typing.{all_items}
use Rattle.cql_plan.proofs.item.all_items.Given as goal

-- all items are those so far and those of the columns left
abbrev pub invariant-loop-column : goal.invariant-loop-column
invariant-loop-column l = all_items 0 l.fields ≡ l.items.items ++ all_items l.column (drop l.column l.fields)
