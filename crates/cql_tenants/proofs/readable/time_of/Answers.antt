use Rattle.std.proofs.lemmas.Grind.{common_steps}
use Rattle.std.proofs.Common.{◌≡◌, ℕ, ap, subst, ◌∙◌, arith}
use Rattle.std.specs.Prelude.{IfSome, slice_get}
use Rattle.cql_tenants.specs.Namespace.{Namespace, namespace_at}
use Rattle.cql_tenants.proofs.Indexed.{time_there}
use Rattle.cql_tenants.proofs.readable.time_of.Goals as goal

pub returns : goal.returns
returns c =
    let namespaces = c.args.namespaces.now in
    let g = c.args.grant.now in
    let namespace : c.namespace_at-owner.result.now ≡ namespace_at namespaces g.owner = c.namespace_at-owner.ensures ∙ ap (namespace_at namespaces) (c.index.ensures ∙ c.owner.ensures) in
    let told = subst (λ (p : ℕ). IfSome (slice_get c.namespace_at-owner.result.now.streams p) (λ s. c.opened.result ≡ s.item.clock)) c.index-2.ensures c.opened.ensures.value in
    time_there namespaces g c.opened.result c.requires (subst (λ (h : Namespace). IfSome (slice_get h.streams g.index) (λ s. c.opened.result ≡ s.item.clock)) namespace told)

pub namespace_at-owner-requires : goal.namespace_at-owner-requires
namespace_at-owner-requires c = grind (arith, common_steps)
