use Rattle.std.proofs.Common.{◌≡◌, ◌-◌, Some, ap, ◌∙◌, sym, get_or}
use Rattle.std.specs.Prelude.{slice_get}
use Rattle.cql_tenants.specs.Held.{shown_of}
use Rattle.cql_tenants.specs.Granted.{Grant}
use Rattle.cql_tenants.proofs.Together.{standing}
use Rattle.cql_tenants.proofs.granted.put_together.Goals as goal

pub among-requires : goal.among-requires
among-requires c =
    let old = c.args.all.now in
    let index = c.loop-index.index in
    let grant : Grant = c.index-as_slice-index.result in
    let read : grant ≡ get_or old index grant = c.index-as_slice-index.is ∙ (λ k. get_or (c.as_slice.ensures k) index grant) ∙ (λ k. get_or (c.loop-index.invariant k) index grant) in
    ap (λ pack. slice_get pack (index - c.args.from)) c.requires.pack
    ∙ standing shown_of old c.args.from c.args.end index grant c.loop-index.auto.index c.loop-index-test.true c.requires.within
    ∙ ap (λ (g : Grant). Some (shown_of g)) (sym read)
