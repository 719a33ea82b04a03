use Rattle.std.proofs.Common.{◌≡◌, ℕ, List, ap, subst, sym, ◌∙◌}
use Rattle.std.specs.Prelude.{Option, Some, IfSome, option_copied}
use Rattle.cql_tenants.specs.Namespace.{Namespace}
use Rattle.cql_tenants.specs.Lookup.{opened_at, owner_meant}
use Rattle.cql_tenants.proofs.Times.{time_found}
use Rattle.cql_tenants.proofs.directory.Directory.opened_under.Goals as goal

pub returns : goal.returns
returns c =
    let namespaces = c.args.self.now in
    let name = c.args.stream.now in
    let n : ℕ = c.opened_at.result in
    let same : c.deref.result.now ≡ namespaces = cc in
    let meant : Some c.in-Some.owner ≡ owner_meant namespaces c.args.tenant (option_copied c.args.owner) = sym (sym c.owner_meant.ensures ∙ c.in-Some.is) in
    time_found namespaces c.args.tenant (option_copied c.args.owner) name n
    (subst (λ (o : Option ℕ). IfSome o (λ p. n ≡ opened_at namespaces p name)) meant (c.opened_at.ensures ∙ ap (λ (h : List Namespace). opened_at h c.in-Some.owner name) same))
