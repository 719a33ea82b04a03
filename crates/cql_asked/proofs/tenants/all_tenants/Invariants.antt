-- The tenants so far, and those of the rest, are all.
use Rattle.std.proofs.Common.{◌≡◌, drop}
use Rattle.serde_json.specs.View.{items_view}
use Rattle.cql_lines.specs.Tree.{all_of}
use Rattle.cql_asked.specs.Table.{tenant_of}
use Rattle.cql_asked.proofs.Readings.{with_read}
use Rattle.cql_asked.proofs.tenants.all_tenants.Given as goal

abbrev pub invariant-loop-item : goal.invariant-loop-item
invariant-loop-item l = with_read tenant_of l.tenants.items (items_view (drop l.item-index l.items)) ≡ all_of tenant_of (items_view l.items)
