use Rattle.std.proofs.lemmas.Grind.{common_steps}
use Rattle.std.proofs.Common.{arith, List, length, take, ◌≤◌, ap, subst, sym, ◌∙◌}
use Rattle.std.specs.Prelude.{Some, slice_get}
use Rattle.cql_plan.specs.declared.plan.Input.{Input}
use Rattle.cql_plan.specs.Ports.{ports}
use Rattle.cql_core.specs.Attached.{AreStreams}
use Rattle.cql_core.proofs.Attaching.{is_there, undo_streams, attached_more, attached_all}
use Rattle.cql_core.proofs.Walks.{get_there}
use Rattle.cql_core.proofs.stub_refs.attach_all.Goals as goal

pub detach_all-requires-clause-streams : goal.detach_all-requires-clause-streams
detach_all-requires-clause-streams c =
    subst (AreStreams c.attach_one.new.stores) (sym (c.as_slice.ensures ∙ c.in-Err.ensures.err))
    (undo_streams c.args.directory.now c.args.tenant c.args.base c.args.hold (take c.loop-input.input-index c.args.plan.now.inputs)
    (take c.loop-input.input-index (ports c.args.plan.now)) c.args.stores.now c.loop-input.stores c.attach_one.new.stores c.loop-input.stub_refs
    c.loop-input.invariant c.in-Err.ensures.same c.requires.beside)

pub attach_one-requires-clause-found : goal.attach_one-requires-clause-found
attach_one-requires-clause-found c =
    is_there c.args.directory.now c.args.tenant c.args.base c.args.plan.now.inputs (ports c.args.plan.now) c.loop-input.input-index c.input-item.result
    (ap (λ (l : List Input). slice_get l c.loop-input.input-index) (sym c.inputs-input-items.ensures.value)
    ∙ get_there c.inputs-input-items.result.now c.loop-input.input-index c.input-item.result c.loop-input-test.true ∙ ap (λ i. Some i) (sym c.input-item.is))
    c.requires.found

pub loop-input-preserved : goal.loop-input-preserved
loop-input-preserved c =
    attached_more c.args.directory.now c.args.tenant c.args.base c.args.hold c.args.plan.now.inputs (ports c.args.plan.now) c.loop-input.input-index c.input-item.result
    (ap (λ (l : List Input). slice_get l c.loop-input.input-index) (sym c.inputs-input-items.ensures.value)
    ∙ get_there c.inputs-input-items.result.now c.loop-input.input-index c.input-item.result c.loop-input-test.true ∙ ap (λ i. Some i) (sym c.input-item.is))
    c.requires.found c.args.stores.now c.loop-input.stores c.attach_one.new.stores c.loop-input.stub_refs c.attach_one.new.stub_refs c.loop-input.invariant c.in_default.ensures.ok

pub returns-clause-ok : goal.returns-clause-ok
returns-clause-ok c =
    attached_all c.args.directory.now c.args.tenant c.args.base c.args.hold c.args.plan.now.inputs (ports c.args.plan.now) c.loop-input.input-index
    (subst (λ (l : List Input). length l ≤ c.loop-input.input-index) c.inputs-input-items.ensures.value c.loop-input-test.false)
    c.requires.found c.args.stores.now c.loop-input.stores c.loop-input.stub_refs c.loop-input.invariant

pub detach_all-requires-clause-held : goal.detach_all-requires-clause-held
detach_all-requires-clause-held c = grind (arith, common_steps)
