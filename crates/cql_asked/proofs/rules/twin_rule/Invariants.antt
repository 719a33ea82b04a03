-- It is left to the tenants that are left.
use Rattle.std.proofs.Common.{◌≡◌, drop}
use Rattle.serde_json.specs.View.{items_view}
use Rattle.cql_asked.specs.Rules.{twins_from}
use Rattle.cql_asked.proofs.rules.twin_rule.Given as goal

abbrev pub invariant-loop-at : goal.invariant-loop-at
invariant-loop-at l = twins_from l.at (items_view (drop l.at l.items)) ≡ twins_from 0 (items_view l.items)
