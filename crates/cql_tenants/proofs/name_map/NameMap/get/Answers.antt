use Rattle.std.proofs.Common.{ap, ◌∙◌}
use Rattle.cql_tenants.specs.Named.{find_named}
use Rattle.cql_tenants.proofs.Looks.{look}
use Rattle.cql_tenants.proofs.name_map.NameMap.get.Goals as goal

pub returns : goal.returns
returns g c = c.get.ensures.value ∙ look c.self.inside.map.entries c.args.name.now ∙ ap (λ ss. find_named ss c.args.name.now) c.self.view_is
