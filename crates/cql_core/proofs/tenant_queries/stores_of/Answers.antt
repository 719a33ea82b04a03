use Rattle.std.proofs.Common.{[], ◌∷◌, ◌++◌, sym, ◌∙◌}
use Rattle.cql_store.specs.Stores.{OwnStores}
use Rattle.cql_core.proofs.Openings.{more_of}
use Rattle.cql_core.proofs.tenant_queries.stores_of.Goals as goal

pub loop-tenant-preserved : goal.loop-tenant-preserved
loop-tenant-preserved c = c.in_ok-add_owner.ensures.ok ∙ (λ k. c.loop-tenant.invariant k ++ [] ∷ []) ∙ sym (more_of {B = OwnStores} [] c.args.tenants.now c.loop-tenant._tenant-index c.loop-tenant-test.true)
