use Rattle.std.proofs.lemmas.Grind.{common_steps}
use Rattle.std.proofs.Common.{ap, ◌∙◌, sym, arith}
use Rattle.std.specs.Option.{option_copied_mut}
use Rattle.cql_tenants.specs.Named.{named_of, change_nth}
use Rattle.indexmap.specs.IndexMap.{set_value_at}
use Rattle.cql_tenants.proofs.Looks.{written_at}
use Rattle.cql_tenants.proofs.Indices.{change_at_index}
use Rattle.cql_tenants.proofs.name_map.NameMap.go_to.Goals as goal

pub returns : goal.returns
returns g c = λ name found.
    let es = c.self.inside.map.entries in
    let valued = sym c.get_index_mut.ensures.value ∙ ap option_copied_mut c.in-Some.is in
    ap (λ new. named_of (set_value_at es c.args.index new)) c.go_to.ensures ∙ written_at (g.V.HasCursor.moved c.args.to) es c.args.index c.in-Some.thing.now valued
    ∙ ap (change_nth (g.V.HasCursor.moved c.args.to) c.args.index) c.self.view_is
    ∙ change_at_index (g.V.HasCursor.moved c.args.to) c.args.self.now name c.args.index found

pub returns-in_default : goal.returns-in_default
returns-in_default g c = grind (arith, common_steps)
