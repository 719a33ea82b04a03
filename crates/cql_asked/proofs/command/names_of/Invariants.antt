-- The names so far, and those of the rest, are all.
use Rattle.std.proofs.Common.{◌≡◌, drop}
use Rattle.serde_json.specs.Find.{as_str}
use Rattle.cql_lines.specs.View.{items_view}
use Rattle.cql_lines.specs.Tree.{all_of}
use Rattle.cql_asked.proofs.Readings.{with_read}
use Rattle.cql_asked.proofs.command.names_of.Given as goal

abbrev pub invariant-loop-item : goal.invariant-loop-item
invariant-loop-item l = with_read as_str l.names.items (items_view (drop l.item-index l.items)) ≡ all_of as_str (items_view l.items)
