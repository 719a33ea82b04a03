use Rattle.std.proofs.Common.{ap, sym, ◌∙◌}
use Rattle.std.specs.Prelude.{Some}
use Rattle.cql_core.proofs.Detached.{streams_at, shaped_stream, is_there, next_held, gone_more}
use Rattle.cql_core.proofs.stub_refs.detach_all.Goals as goal
use Rattle.cql_core.proofs.Walks.{get_there}

pub detach-requires-clause-there : goal.detach-requires-clause-there
detach-requires-clause-there c =
    let at = get_there c.args.stub_refs.now c.loop-stub_ref.stub_ref-index c.stub_ref-item.result c.loop-stub_ref-test.true ∙ ap (λ s. Some s) (sym c.stub_ref-item.is) in
    shaped_stream c.args.stores.now c.loop-stub_ref.stores c.stub_ref-item.result.owner c.stub_ref-item.result.stream c.loop-stub_ref.invariant.shape
    (streams_at c.args.stores.now c.args.stub_refs.now c.loop-stub_ref.stub_ref-index c.stub_ref-item.result at c.requires.streams)

pub detach-requires-clause-held : goal.detach-requires-clause-held
detach-requires-clause-held c =
    let at = get_there c.args.stub_refs.now c.loop-stub_ref.stub_ref-index c.stub_ref-item.result c.loop-stub_ref-test.true ∙ ap (λ s. Some s) (sym c.stub_ref-item.is) in
    is_there _ (next_held c.args.stores.now c.loop-stub_ref.stores c.args.stub_refs.now c.loop-stub_ref.stub_ref-index c.stub_ref-item.result at c.requires.held c.loop-stub_ref.invariant)

pub loop-stub_ref-preserved : goal.loop-stub_ref-preserved
loop-stub_ref-preserved c =
    let at = get_there c.args.stub_refs.now c.loop-stub_ref.stub_ref-index c.stub_ref-item.result c.loop-stub_ref-test.true ∙ ap (λ s. Some s) (sym c.stub_ref-item.is) in
    gone_more c.args.stores.now c.loop-stub_ref.stores c.args.stub_refs.now c.loop-stub_ref.stub_ref-index c.stub_ref-item.result at c.requires.held c.loop-stub_ref.invariant c.detach.new.self c.detach.ensures
