use Rattle.std.proofs.lemmas.Grind.{common_steps}
use Rattle.std.proofs.Common.{◌≡◌, ℕ, length, ap, sym, subst, ◌∙◌, arith}
use Rattle.std.specs.Prelude.{None, Some, IfSome, option_map, slice_get}
use Rattle.cql_window.specs.Projection.{projected, AreWithin}
use Rattle.cql_tenants.specs.Named.{index_of}
use Rattle.cql_tenants.specs.Namespace.{namespace_at, stream_at, grant_of}
use Rattle.cql_tenants.specs.Lookup.{opened_at}
use Rattle.cql_tenants.proofs.Indices.{no_index, clock_at}
use Rattle.cql_tenants.proofs.Grants.{Given, given_at}
use Rattle.cql_tenants.proofs.directory.Directory.granted_found.Goals as goal

pub returns-in_err-index-clause-seen : goal.returns-in_err-index-clause-seen
returns-in_err-index-clause-seen c =
    let namespaces = c.args.self.now in
    let name = c.args.stream.now in
    let g = c.in_ok-grant.grant.now in
    let there : Given namespaces c.args.owner name g = given_at _ namespaces c.self.invariant.grants c.self.view_is c.args.tenant c.args.owner name c.namespace_at-namespace.result.now g ((λ i. namespace_at (sym (c.deref.ensures.value ∙ c.self.view_is) i) (sym c.index.ensures i)) ∙ sym c.namespace_at-namespace.ensures) c.in_ok-grant.ensures in
    let lost : index_of (namespace_at namespaces g.owner).streams name ≡ None = ap (λ o. index_of (namespace_at namespaces o).streams name) (sym c.owner-owner.ensures) ∙ (sym c.stream_index.ensures.value ∙ c.in_err-index.was) in
    let none : Some there.stream ≡ None = sym there.found ∙ no_index (namespace_at namespaces g.owner).streams name lost in
    absurd (cc none)

pub returns-clause-seen : goal.returns-clause-seen
returns-clause-seen c =
    let namespaces = c.args.self.now in
    let name = c.args.stream.now in
    let g = c.in_ok-grant.grant.now in
    let namespace : namespace_at namespaces c.args.tenant ≡ c.namespace_at-namespace.result.now = (λ i. namespace_at (sym (c.deref.ensures.value ∙ c.self.view_is) i) (sym c.index.ensures i)) ∙ sym c.namespace_at-namespace.ensures in
    let there : Given namespaces c.args.owner name g = given_at _ namespaces c.self.invariant.grants c.self.view_is c.args.tenant c.args.owner name c.namespace_at-namespace.result.now g namespace c.in_ok-grant.ensures in
    let own = c.owner-owner.ensures in
    let at : index_of (namespace_at namespaces g.owner).streams name ≡ Some c.in_ok-index.index = ap (λ o. index_of (namespace_at namespaces o).streams name) (sym own) ∙ (sym c.stream_index.ensures.value ∙ c.in_ok-index.was) in
    let told = subst (λ (o : ℕ). IfSome (slice_get (namespace_at namespaces o).streams c.in_ok-index.index) (λ s. c.opened.result ≡ s.item.clock)) own c.opened.ensures.value in
    let opened : c.opened.result ≡ opened_at namespaces g.owner g.stream = clock_at (namespace_at namespaces g.owner).streams name c.in_ok-index.index c.opened.result at told ∙ ap (opened_at namespaces g.owner) (sym there.name_is) in
    (λ i. Some (record { owner = own i; schema = c.schema.ensures i; named = c.is_named.ensures i; opened = opened i }))
    ∙ ap (option_map (λ h. record { owner = h.owner; schema = h.schema; named = h.named; opened = opened_at namespaces h.owner h.stream })) (c.in_ok-grant.ensures ∙ ap (λ h. grant_of h c.args.owner name) (sym namespace))

pub returns-clause-stream : goal.returns-clause-stream
returns-clause-stream c =
    let namespaces = c.args.self.now in
    let name = c.args.stream.now in
    let g = c.in_ok-grant.grant.now in
    let there : Given namespaces c.args.owner name g = given_at _ namespaces c.self.invariant.grants c.self.view_is c.args.tenant c.args.owner name c.namespace_at-namespace.result.now g ((λ i. namespace_at (sym (c.deref.ensures.value ∙ c.self.view_is) i) (sym c.index.ensures i)) ∙ sym c.namespace_at-namespace.ensures) c.in_ok-grant.ensures in
    record {
      index = grind (arith, common_steps);
      schema =
          (λ i. option_map (λ s. projected s.schema (c.projection.ensures i)) (stream_at namespaces (c.owner-owner.ensures i) name))
          ∙ ap (option_map (λ s. projected s.schema g.projection)) there.found ∙ ap (λ x. Some x) (sym there.shows.schema ∙ sym c.schema.ensures);
      within =
          subst (λ o. IfSome o (λ s. AreWithin c.projection.result.now (length s.schema))) (sym (ap (λ o. stream_at namespaces o name) c.owner-owner.ensures ∙ there.found))
          (subst (λ l. AreWithin l (length there.stream.schema)) (sym c.projection.ensures) there.shows.within);
    }

pub returns-clause-owner : goal.returns-clause-owner
returns-clause-owner c =
    let namespaces = c.args.self.now in
    let name = c.args.stream.now in
    let g = c.in_ok-grant.grant.now in
    let namespace : namespace_at namespaces c.args.tenant ≡ c.namespace_at-namespace.result.now = (λ i. namespace_at (sym (c.deref.ensures.value ∙ c.self.view_is) i) (sym c.index.ensures i)) ∙ sym c.namespace_at-namespace.ensures in
    let there : Given namespaces c.args.owner name g = given_at _ namespaces c.self.invariant.grants c.self.view_is c.args.tenant c.args.owner name c.namespace_at-namespace.result.now g namespace c.in_ok-grant.ensures in
    c.owner-owner.ensures ∙ there.owner_is

pub returns-in_err-index-clause-stream : goal.returns-in_err-index-clause-stream
returns-in_err-index-clause-stream c = grind (arith, common_steps)

pub returns-in_err-grant-clause-projection : goal.returns-in_err-grant-clause-projection
returns-in_err-grant-clause-projection c = grind (arith, common_steps)

pub returns-in_err-grant-clause-seen : goal.returns-in_err-grant-clause-seen
returns-in_err-grant-clause-seen c = grind (arith, common_steps)

pub returns-in_err-index-clause-projection : goal.returns-in_err-index-clause-projection
returns-in_err-index-clause-projection c = grind (arith, common_steps)

pub namespace_at-namespace-requires : goal.namespace_at-namespace-requires
namespace_at-namespace-requires c = grind (arith, common_steps)

pub returns-in_err-index-clause-owner : goal.returns-in_err-index-clause-owner
returns-in_err-index-clause-owner c = grind (arith, common_steps)

pub returns-in_err-grant-clause-owner : goal.returns-in_err-grant-clause-owner
returns-in_err-grant-clause-owner c = grind (arith, common_steps)

pub returns-in_err-grant-clause-stream : goal.returns-in_err-grant-clause-stream
returns-in_err-grant-clause-stream c = grind (arith, common_steps)
