-- It is left to those that are left.
use Rattle.std.proofs.Common.{◌≡◌, drop}
use Rattle.serde_json.specs.View.{items_view}
use Rattle.cql_asked.specs.Rules.{named_from}
use Rattle.cql_asked.proofs.rules.named.Given as goal

abbrev pub invariant-loop-at : goal.invariant-loop-at
invariant-loop-at l = named_from l.at l.name (items_view (drop l.at l.items)) ≡ named_from 0 l.name (items_view l.items)
