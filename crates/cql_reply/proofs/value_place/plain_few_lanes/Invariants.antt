-- The bytes so far stand for themselves.
use Rattle.std.proofs.Common.{◌≤◌, ◌-◌}
use Rattle.json.specs.Written.{PlainBetween}
use Rattle.cql_reply.proofs.value_place.plain_few_lanes.Given as goal

abbrev pub invariant-lanes : goal.invariant-lanes
invariant-lanes l = PlainBetween l.text 0 l.at × (l.at ≤ l.end)

abbrev pub decreases-lanes : goal.decreases-lanes
decreases-lanes l = l.end - l.at
