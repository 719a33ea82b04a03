use Rattle.std.proofs.lemmas.Grind.{common_steps}
use Rattle.std.proofs.Common.{arith, List, [], ◌∷◌, ◌++◌, sym, ◌∙◌}
use Rattle.cql_tenants.specs.Named.{Named}
use Rattle.cql_core.specs.declared.query_state.QueryState.{QueryState}
use Rattle.cql_core.proofs.Openings.{more_of}
use Rattle.cql_core.proofs.tenant_queries.no_queries_of.Goals as goal

pub loop-tenant-preserved : goal.loop-tenant-preserved
loop-tenant-preserved c = c.in_ok-push.ensures.items ∙ (λ k. c.loop-tenant.invariant k ++ c.new.ensures k ∷ [])
    ∙ sym (more_of {B = List (Named QueryState)} [] c.args.tenants.now c.loop-tenant._tenant-index c.loop-tenant-test.true)

pub returns : goal.returns
returns c = grind (arith, common_steps)
