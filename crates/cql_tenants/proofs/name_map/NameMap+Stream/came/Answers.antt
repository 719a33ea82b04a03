use Rattle.std.proofs.lemmas.Grind.{common_steps}
use Rattle.std.proofs.Common.{◌≡◌, None, option_map, slice_get, ap, ◌∙◌, sym, arith}
use Rattle.std.specs.Option.{option_copied_mut}
use Rattle.cql_tenants.specs.Clock.{time_fault}
use Rattle.cql_tenants.specs.Named.{named_of, change_nth}
use Rattle.cql_tenants.specs.Taking.{opens}
use Rattle.indexmap.specs.IndexMap.{set_value_at}
use Rattle.cql_tenants.proofs.Looks.{written_at, value_at}
use Rattle.cql_tenants.proofs.Indices.{said_at}
use Rattle.cql_tenants.proofs.name_map.NameMap+Stream.came.Goals as goal

pub came-requires : goal.came-requires
came-requires c =
    let es = c.self.inside.map.entries in
    let valued = sym c.get_index_mut.ensures.value ∙ ap option_copied_mut c.in-Some.is in
    let there = sym (value_at es c.args.index ∙ ap (λ ss. option_map (λ s. s.item) (slice_get ss c.args.index)) c.self.view_is) ∙ valued in
    said_at (λ s. time_fault s.clock c.args.at ≡ None) (slice_get c.args.self.now c.args.index) c.in-Some.stream.now there c.requires.takes

pub returns : goal.returns
returns c =
    let es = c.self.inside.map.entries in
    let valued = sym c.get_index_mut.ensures.value ∙ ap option_copied_mut c.in-Some.is in
    ap (λ new. named_of (set_value_at es c.args.index new)) c.came.ensures ∙ written_at (opens c.args.at) es c.args.index c.in-Some.stream.now valued
    ∙ ap (change_nth (opens c.args.at) c.args.index) c.self.view_is

pub returns-in_default : goal.returns-in_default
returns-in_default c = grind (arith, common_steps)
