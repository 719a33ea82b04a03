use Rattle.std.proofs.Common.{◌≡◌, take, map}
use Rattle.cql_tenants.specs.Held.{shown_of}
use Rattle.cql_tenants.proofs.granted.gathered.Given as goal

-- the grants so far
abbrev pub invariant-loop-grant : goal.invariant-loop-grant
invariant-loop-grant l = l.pack ≡ map shown_of (take l.grant-index l.grants)
