-- The streams of a plan's inputs.
use Rattle.std.proofs.Common.{◌≡◌, ℕ, true, List, [], ◌∷◌, map, refl, ap, subst}
use Rattle.std.specs.Prelude.{Option, Some, None, option_map, Result, Ok, Err, is_some}
use Rattle.cql_plan.specs.declared.plan.Input.{Input}
use Rattle.cql_plan.specs.declared.plan.Planned.{Planned}
use Rattle.cql_tenants.specs.Readable.{StreamView}
use Rattle.cql_core.specs.declared.refusal.Refusal.{Refusal}
use Rattle.cql_core.specs.StreamId.{stream_id_of}
use Rattle.cql_core.specs.Bound.{StreamLookup, visible_alone_of, schemas, BoundPlan, owner_of, bound_input, bound}
use Rattle.cql_core.specs.Language.{Language, AreReadable, IsLanguage, bound_or}
use Rattle.cql_core.specs.Binding.{AreBound, IsBindingLaw}

stream_found : (o : Option StreamView) → is_some (option_map visible_alone_of o) ≡ true → (s : StreamView) × (o ≡ Some s)
stream_found None h = absurd cc
stream_found (Some s) h = (s, refl)

all_bound : (found : StreamLookup) (is : List Input) → AreReadable (schemas found) is → AreBound found is (map (bound_input found) is)
all_bound found [] h = tt
all_bound found (i ∷ is) h =
    let it = stream_found (found i.owner i.stream) h.0 in
    ((it.0, it.1, ap (λ o. stream_id_of (owner_of o) i.stream) it.1, refl, refl), all_bound found is h.1)

-- over what the language says of the text
module _ (language : Language) (is : IsLanguage language) (found : StreamLookup) (text : List ℕ) where
  abbrev IsBound : BoundPlan → Type 0
  IsBound plan = (language.plan_of (schemas found) text ≡ Ok plan.plan) × AreBound found plan.plan.inputs plan.inputs

  planned_by : (r : Result Planned Refusal) → language.plan_of (schemas found) text ≡ r → (plan : BoundPlan) → bound_or found r ≡ Ok plan → IsBound plan
  planned_by (Err refusal) e plan h = absurd cc
  planned_by (Ok planned) e plan h =
      let same : bound found planned ≡ plan = cc in
      subst IsBound same (e, all_bound found planned.inputs (is.reads (schemas found) text planned e))

pub binding_law : IsBindingLaw
binding_law language is found text = record {
  planned = λ plan h. planned_by language is found text (language.plan_of (schemas found) text) refl plan h;
  refused = λ refusal e. ap (bound_or found) e;
}
