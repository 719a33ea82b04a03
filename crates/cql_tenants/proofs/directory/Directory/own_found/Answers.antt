use Rattle.std.proofs.lemmas.Grind.{common_steps}
use Rattle.std.proofs.Common.{◌≡◌, true, false, eqb, length, ap, sym, subst, ◌∙◌, arith}
use Rattle.std.specs.Prelude.{Some, IfSome, option_map, if◌then◌else◌}
use Rattle.std.proofs.lemmas.Bool.Decides.{nat_tests}
use Rattle.cql_tenants.specs.Named.{find_named}
use Rattle.cql_window.specs.Projection.{projected, AreWithin}
use Rattle.cql_tenants.specs.Namespace.{namespace_at, stream_at, grant_of}
use Rattle.cql_tenants.specs.Readable.{StreamView, own_projection, granted_projection}
use Rattle.cql_tenants.specs.Lookup.{seen_of}
use Rattle.cql_tenants.proofs.Indices.{no_index, found_at}
use Rattle.cql_window.proofs.Picks.{at_all, all_within}
use Rattle.cql_tenants.proofs.directory.Directory.own_found.Goals as goal

pub returns-in_err-index-clause-seen : goal.returns-in_err-index-clause-seen
returns-in_err-index-clause-seen c =
    let namespace : namespace_at c.args.self.now c.args.tenant ≡ c.namespace_at.result.now = (λ i. namespace_at (sym (c.deref.ensures.value ∙ c.self.view_is) i) (sym c.index.ensures i)) ∙ sym c.namespace_at.ensures in
    let lost = no_index c.namespace_at.result.now.streams c.args.stream.now (sym c.index_of.ensures.value ∙ c.in_err-index.was) in
    ap (option_map seen_of) c.from_residual.ensures
    ∙ sym (ap (option_map (λ s. record { owner = c.args.tenant; schema = s.schema; named = false; opened = s.clock })) (ap (λ h. find_named h.streams c.args.stream.now) namespace ∙ lost))

pub returns-clause-seen : goal.returns-clause-seen
returns-clause-seen c =
    let namespace : namespace_at c.args.self.now c.args.tenant ≡ c.namespace_at.result.now = (λ i. namespace_at (sym (c.deref.ensures.value ∙ c.self.view_is) i) (sym c.index.ensures i)) ∙ sym c.namespace_at.ensures in
    let found = ap (λ h. find_named h.streams c.args.stream.now) namespace ∙ found_at c.namespace_at.result.now.streams c.args.stream.now _ _ (sym c.index_of.ensures.value ∙ c.in_ok-index.was) c.entry.ensures in
    let seen : StreamView = record { owner = c.args.tenant; schema = c.entry.result.1.now.schema; named = false; opened = c.opened.result } in
    ap (λ n. Some (record seen { opened = n })) c.opened.ensures.value ∙ sym (ap (option_map (λ s. record { owner = c.args.tenant; schema = s.schema; named = false; opened = s.clock })) found)

pub returns-clause-stream : goal.returns-clause-stream
returns-clause-stream c =
    let namespace : namespace_at c.args.self.now c.args.tenant ≡ c.namespace_at.result.now = (λ i. namespace_at (sym (c.deref.ensures.value ∙ c.self.view_is) i) (sym c.index.ensures i)) ∙ sym c.namespace_at.ensures in
    let found = ap (λ h. find_named h.streams c.args.stream.now) namespace ∙ found_at c.namespace_at.result.now.streams c.args.stream.now _ _ (sym c.index_of.ensures.value ∙ c.in_ok-index.was) c.entry.ensures in
    let own = c.entry.result.1.now.schema in
    let many = length c.entry.result.1.now.schema in
    record {
      index = grind (arith, common_steps);
      schema = ap (option_map (λ s. projected s.schema c.whole_projection.result.now)) found ∙ ap (λ l. Some (projected own l)) c.whole_projection.ensures ∙ ap (λ l. Some l) (at_all own);
      within = subst (λ o. IfSome o (λ s. AreWithin c.whole_projection.result.now (length s.schema))) (sym found) (subst (λ l. AreWithin l many) (sym c.whole_projection.ensures) (all_within many));
    }

pub returns-clause-projection : goal.returns-clause-projection
returns-clause-projection c =
    let tenant = c.args.tenant in
    let namespaces = c.args.self.now in
    let name = c.args.stream.now in
    let namespace : namespace_at namespaces tenant ≡ c.namespace_at.result.now = (λ i. namespace_at (sym (c.deref.ensures.value ∙ c.self.view_is) i) (sym c.index.ensures i)) ∙ sym c.namespace_at.ensures in
    let found = ap (λ h. find_named h.streams name) namespace ∙ found_at c.namespace_at.result.now.streams name _ _ (sym c.index_of.ensures.value ∙ c.in_ok-index.was) c.entry.ensures in
    let same : eqb tenant tenant ≡ true = grind (arith, nat_tests) in
    c.whole_projection.ensures ∙ ap own_projection (sym found) ∙ (λ i. if sym same i then own_projection (stream_at namespaces tenant name) else granted_projection (grant_of (namespace_at namespaces tenant) tenant name))

pub entry-requires : goal.entry-requires
entry-requires c = grind (arith, common_steps)

pub namespace_at-requires : goal.namespace_at-requires
namespace_at-requires c = grind (arith, common_steps)

pub returns-in_err-index-clause-projection : goal.returns-in_err-index-clause-projection
returns-in_err-index-clause-projection c = grind (arith, common_steps)

pub returns-in_err-index-clause-stream : goal.returns-in_err-index-clause-stream
returns-in_err-index-clause-stream c = grind (arith, common_steps)
