use Rattle.std.proofs.lemmas.Grind.{common_steps}
use Rattle.std.proofs.Common.{arith, ◌+◌, List, ◌∷◌, map, drop, min, ap, subst, sym, ◌∙◌}
use Rattle.std.specs.Prelude.{Some, slice_get}
use Rattle.std.proofs.lemmas.List.{drop_all}
use Rattle.cql_plan.specs.declared.plan.Input.{Input}
use Rattle.cql_tenants.specs.Lookup.{found}
use Rattle.cql_core.specs.Bound.{BoundInput, bound_input}
use Rattle.cql_core.specs.Language.{AreReadable}
use Rattle.cql_core.specs.Checks.{least}
use Rattle.cql_core.specs.Cql.{readable_in}
use Rattle.cql_core.specs.StreamId.{projection_in}
use Rattle.cql_core.specs.Lookup.{opened_in}
use Rattle.cql_core.proofs.Walks.{get_there}
use Rattle.cql_core.proofs.Founds.{readable_at, least_more, map_twice}
use Rattle.cql_core.proofs.stub_refs.base_of.Goals as goal

pub opened_of-least-requires : goal.opened_of-least-requires
opened_of-least-requires c = readable_at (projection_in c.args.directory.now c.args.tenant) (found c.args.directory.now c.args.tenant) c.args.inputs.now 0
    c.in-Some.first.now (ap (λ (l : List Input). slice_get l 0) c.in-Some.ensures.cases.0) c.requires

pub opened_of-requires : goal.opened_of-requires
opened_of-requires c =
    readable_at (projection_in c.args.directory.now c.args.tenant) (found c.args.directory.now c.args.tenant) c.in-Some.rest.now c.loop-input.input-index c.input-item.result
    (get_there c.in-Some.rest.now c.loop-input.input-index c.input-item.result c.loop-input-test.true ∙ ap (λ i. Some i) (sym c.input-item.is))
    (subst (AreReadable (readable_in c.args.directory.now c.args.tenant)) c.in-Some.ensures.cases.0 c.requires).1

pub loop-input-preserved : goal.loop-input-preserved
loop-input-preserved c =
    let g = λ (i : Input). opened_in c.args.directory.now (bound_input (found c.args.directory.now c.args.tenant) i).stream_id in
    ap (λ n. least (n ∷ map g (drop (c.loop-input.input-index + 1) c.in-Some.rest.now))) (c.min-least.ensures ∙ ap (min c.loop-input.least) c.opened_of.ensures)
    ∙ least_more g c.in-Some.rest.now c.loop-input.input-index c.input-item.result c.loop-input.least
    (get_there c.in-Some.rest.now c.loop-input.input-index c.input-item.result c.loop-input-test.true ∙ ap (λ i. Some i) (sym c.input-item.is)) ∙ c.loop-input.invariant

pub returns : goal.returns
returns c =
    let g = λ (i : Input). opened_in c.args.directory.now (bound_input (found c.args.directory.now c.args.tenant) i).stream_id in
    ap (λ (l : List Input). least (c.loop-input.least ∷ map g l)) (sym (drop_all c.loop-input.input-index c.in-Some.rest.now c.loop-input-test.false))
    ∙ c.loop-input.invariant ∙ ap least (sym (map_twice (λ (b : BoundInput). opened_in c.args.directory.now b.stream_id) (bound_input (found c.args.directory.now c.args.tenant)) c.args.inputs.now))

pub returns-in_default : goal.returns-in_default
returns-in_default c = grind (arith, common_steps)
