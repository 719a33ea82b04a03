use Rattle.std.proofs.lemmas.Grind.{common_steps}
use Rattle.std.proofs.Common.{ap, ◌∙◌, sym, arith}
use Rattle.std.specs.Option.{option_copied_mut}
use Rattle.cql_tenants.specs.Named.{named_of, change_nth}
use Rattle.indexmap.specs.IndexMap.{set_value_at}
use Rattle.cql_tenants.proofs.Looks.{written_at}
use Rattle.cql_tenants.proofs.name_map.NameMap.close.Goals as goal

pub returns : goal.returns
returns g c =
    let es = c.self.inside.map.entries in
    let valued = sym c.get_index_mut.ensures.value ∙ ap option_copied_mut c.in-Some.is in
    ap (λ new. named_of (set_value_at es c.args.index new)) c.close.ensures ∙ written_at g.V.HasCursor.closed es c.args.index c.in-Some.thing.now valued
    ∙ ap (change_nth g.V.HasCursor.closed c.args.index) c.self.view_is

pub returns-in_default : goal.returns-in_default
returns-in_default g c = grind (arith, common_steps)
