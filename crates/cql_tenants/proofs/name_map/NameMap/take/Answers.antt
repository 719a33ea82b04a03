use Rattle.std.proofs.Common.{ap, ◌∙◌}
use Rattle.cql_tenants.specs.Named.{named_of, find_named, remove_named}
use Rattle.cql_tenants.proofs.Looks.{look, removed, if_taken, if_none_taken}
use Rattle.cql_tenants.proofs.name_map.NameMap.take.Goals as goal

pub returns-clause-found : goal.returns-clause-found
returns-clause-found g c =
    c.shift_remove.ensures.value ∙ look c.self.inside.map.entries c.args.name.now ∙ ap (λ ss. find_named ss c.args.name.now) c.self.view_is

pub returns-clause-taken : goal.returns-clause-taken
returns-clause-taken g c =
    if_taken _ (ap named_of c.shift_remove.ensures.entries ∙ removed c.self.inside.map.entries c.args.name.now ∙ ap (λ ss. remove_named ss c.args.name.now) c.self.view_is)

pub returns-clause-same : goal.returns-clause-same
returns-clause-same g c =
    if_none_taken _ c.args.self.now _ c.args.name.now
    (c.shift_remove.ensures.value ∙ look c.self.inside.map.entries c.args.name.now ∙ ap (λ ss. find_named ss c.args.name.now) c.self.view_is)
    (ap named_of c.shift_remove.ensures.entries ∙ removed c.self.inside.map.entries c.args.name.now ∙ ap (λ ss. remove_named ss c.args.name.now) c.self.view_is)
