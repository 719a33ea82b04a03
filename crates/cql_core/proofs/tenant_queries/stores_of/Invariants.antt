use Rattle.std.proofs.Common.{◌≡◌, take}
use Rattle.cql_core.specs.Sound.{no_stores}
use Rattle.cql_core.proofs.tenant_queries.stores_of.Given as goal

-- those of the tenants so far
abbrev pub invariant-loop-tenant : goal.invariant-loop-tenant
invariant-loop-tenant l = l.stores ≡ no_stores (take l._tenant-index l.tenants)
