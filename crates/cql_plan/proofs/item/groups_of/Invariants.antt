use Rattle.std.proofs.Common.{◌≡◌, drop}
use Rattle.cql_plan.specs.Outcome.{each}
use Rattle.cql_plan.specs.Typing.{group_of}
use Rattle.cql_plan.proofs.Each.{after}
use Rattle.cql_plan.proofs.item.groups_of.Given as goal

abbrev pub invariant-loop-column : goal.invariant-loop-column
invariant-loop-column l = each (group_of l.fields) l.written ≡ after l.groups (each (group_of l.fields) (drop l.column-index l.written))
