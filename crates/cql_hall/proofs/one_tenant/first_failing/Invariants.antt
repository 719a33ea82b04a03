use Rattle.std.proofs.Common.{◌≡◌, map, take}
use Rattle.cql_core.specs.Machine.{opening}
use Rattle.cql_hall.specs.Entering.{noted}
use Rattle.cql_hall.specs.Sent.{sent_as}
use Rattle.cql_hall.specs.Tells.{replayed_alone}
use Rattle.cql_hall.proofs.Sending.{FailsSoFar}
use Rattle.cql_hall.proofs.one_tenant.first_failing.Given as goal

-- each entry so far was looked at
abbrev pub invariant-loop-i : goal.invariant-loop-i
invariant-loop-i l = record {
  core : l.core ≡ replayed_alone l.fn.tenant (opening l.fn.table) (map noted (take l.i l.entries));
  first : FailsSoFar l.fn.tenant (record { table = l.fn.table; entries = map noted l.entries }) l.i (map sent_as l.sent) l.first;
}
