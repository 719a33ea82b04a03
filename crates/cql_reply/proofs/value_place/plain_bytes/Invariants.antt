-- The bytes so far stand for themselves.
use Rattle.std.proofs.Common.{◌≤◌, ◌-◌}
use Rattle.json.specs.Written.{PlainBetween}
use Rattle.cql_reply.proofs.value_place.plain_bytes.Given as goal

abbrev pub invariant-bytes : goal.invariant-bytes
invariant-bytes l = PlainBetween l.text 0 l.at × (l.at ≤ l.end) × (l.from ≤ l.at)

abbrev pub decreases-bytes : goal.decreases-bytes
decreases-bytes l = l.end - l.at
