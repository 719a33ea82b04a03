use Rattle.std.proofs.Common.{ap, ◌∙◌}
use Rattle.cql_tenants.specs.Named.{index_of}
use Rattle.cql_tenants.proofs.Looks.{indexed}
use Rattle.cql_tenants.proofs.name_map.NameMap.index_of.Goals as goal

pub returns-clause-value : goal.returns-clause-value
returns-clause-value g c = c.get_index_of.ensures.index ∙ indexed c.self.inside.map.entries c.args.name.now ∙ ap (λ ss. index_of ss c.args.name.now) c.self.view_is
