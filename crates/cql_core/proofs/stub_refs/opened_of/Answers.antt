use Rattle.std.proofs.Common.{◌≡◌, subst}
use Rattle.std.specs.Prelude.{IfSome}
use Rattle.cql_tenants.specs.Lookup.{found}
use Rattle.cql_core.proofs.Founds.{opened_by}
use Rattle.cql_core.proofs.stub_refs.opened_of.Goals as goal

pub returns : goal.returns
returns c =
    let namespaces = c.args.directory.now in
    let user = c.args.tenant in
    let input = c.args.input.now in
    let named = subst (λ o. IfSome (found namespaces user o c.as_str.result.now) (λ s. c.opened_under.result ≡ s.opened)) c.owner_written.ensures c.opened_under.ensures in
    opened_by namespaces user input c.opened_under.result c.requires (subst (λ n. IfSome (found namespaces user input.owner n) (λ s. c.opened_under.result ≡ s.opened)) c.as_str.ensures.value named)
