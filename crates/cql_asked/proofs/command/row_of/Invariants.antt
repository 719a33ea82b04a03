-- The values so far, and those of the rest, are all.
use Rattle.std.proofs.Common.{◌≡◌, drop}
use Rattle.cql_lines.specs.View.{items_view}
use Rattle.cql_lines.specs.Tree.{all_of}
use Rattle.cql_asked.specs.Command.{value_of}
use Rattle.cql_asked.proofs.Readings.{with_read}
use Rattle.cql_asked.proofs.command.row_of.Given as goal

abbrev pub invariant-loop-item : goal.invariant-loop-item
invariant-loop-item l = with_read value_of l.values.items (items_view (drop l.item-index l.items)) ≡ all_of value_of (items_view l.items)
