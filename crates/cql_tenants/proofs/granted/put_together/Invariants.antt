use Rattle.std.proofs.Common.{◌≡◌}
use Rattle.cql_tenants.proofs.granted.put_together.Given as goal

-- the same grants
abbrev pub invariant-loop-index : goal.invariant-loop-index
invariant-loop-index l = l.all ≡ l.fn.all
