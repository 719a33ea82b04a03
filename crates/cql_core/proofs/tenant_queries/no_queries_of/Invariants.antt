use Rattle.std.proofs.Common.{◌≡◌, take}
use Rattle.cql_core.specs.Sound.{no_states}
use Rattle.cql_core.proofs.tenant_queries.no_queries_of.Given as goal

-- those of the tenants so far
abbrev pub invariant-loop-tenant : goal.invariant-loop-tenant
invariant-loop-tenant l = l.queries.items ≡ no_states (take l._tenant-index l.tenants)
