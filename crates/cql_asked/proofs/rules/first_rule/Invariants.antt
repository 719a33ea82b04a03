-- It is left to the tenants that are left.
use Rattle.std.proofs.Common.{◌≡◌, drop}
use Rattle.serde_json.specs.View.{items_view}
use Rattle.cql_asked.specs.Rules.{rules_from}
use Rattle.cql_asked.proofs.rules.first_rule.Given as goal

abbrev pub invariant-loop-at : goal.invariant-loop-at
invariant-loop-at l = rules_from l.at (items_view (drop l.at l.items)) ≡ rules_from 0 (items_view l.items)
