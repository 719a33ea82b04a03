-- A new query's stubs have the projections that its plan sees all of.
use Rattle.std.proofs.Common.{◌≡◌, ℕ, true, List, [], ◌∷◌, map, length, refl, ap, subst, ◌∙◌, sym}
use Rattle.std.specs.Prelude.{Option, Some, None, option_map, Result, Ok, Err, is_some}
use Rattle.cql_window.specs.Projection.{whole_projection}
use Rattle.cql_plan.specs.declared.plan.Input.{Input}
use Rattle.cql_plan.specs.declared.plan.Planned.{Planned}
use Rattle.cql_plan.specs.Projected.{alone, visible_alone, widened_by, widened}
use Rattle.cql_tenants.specs.declared.namespace.Namespace.{Namespace}
use Rattle.cql_tenants.specs.Readable.{StreamView}
use Rattle.cql_core.specs.declared.refusal.Refusal.{Refusal}
use Rattle.cql_core.specs.StreamId.{stream_id_of, projection_in}
use Rattle.cql_core.specs.Bound.{StreamLookup, visible_alone_of, schemas, owner_of, bound_input, BoundPlan}
use Rattle.cql_core.specs.Language.{Language, IsLanguage, AreReadable, bound_or, or_widened}
use Rattle.cql_core.specs.Lookup.{found_by}
use Rattle.cql_core.proofs.Namespaces.{found_readable}
use Rattle.cql_core.proofs.Simulation.{new_sim_stub, plan_seen}
use Rattle.cql_core.proofs.Shown.{AreSet}
use Rattle.cql_core.proofs.Reach.{bound_is}
use Rattle.cql_core.proofs.Keeps.{Reached, columns_seen}

-- what is seen alone is seen so again
alone_again : (o : Option StreamView) → option_map alone (option_map visible_alone_of o) ≡ option_map visible_alone_of o
alone_again None = refl
alone_again (Some v) = refl

alone_twice : (found : StreamLookup) → visible_alone (schemas found) ≡ schemas found
alone_twice found = λ i owner name. alone_again (found owner name) i

abbrev inputs_or : Result Planned Refusal → List Input
inputs_or (Ok plan) = plan.inputs
inputs_or (Err refusal) = []

-- a plan over what is seen alone sees all columns of its streams
sees_all : (language : Language) → IsLanguage language → (found : StreamLookup) (text : List ℕ) (p : Planned) → language.plan_of (schemas found) text ≡ Ok p → p.inputs ≡ map (widened (schemas found)) p.inputs
sees_all language is found text p e =
    ap inputs_or (sym e ∙ is.sees (schemas found) text ∙ (λ i. or_widened (schemas found) (language.plan_of (alone_twice found i) text)) ∙ ap (or_widened (schemas found)) e)

module _ (d : List Namespace) (reached : Reached d) (t : ℕ) (hold base : ℕ) where
  set_one : (i : Input) (o : Option StreamView) → found_by d t i.owner i.stream ≡ o → is_some (option_map visible_alone_of o) ≡ true → i.projection ≡ (widened_by (option_map visible_alone_of o) i).projection
      → i.projection ≡ whole_projection (length (projection_in d t (stream_id_of (owner_of o) i.stream)))
  set_one i None is some e = absurd cc
  set_one i (Some v) is some e = e ∙ ap whole_projection (sym (columns_seen d reached t (stream_id_of v.owner i.stream) v (found_readable d t i.owner i.stream v is)))

  set_all : (is : List Input) → AreReadable (schemas (found_by d t)) is → is ≡ map (widened (schemas (found_by d t))) is
      → AreSet (projection_in d t) is (map (bound_input (found_by d t)) is) (map (new_sim_stub hold base (projection_in d t)) (map (bound_input (found_by d t)) is))
  set_all [] h e = tt
  set_all (i ∷ is) h e =
      let head : i ≡ widened (schemas (found_by d t)) i = cc in
      let tail : is ≡ map (widened (schemas (found_by d t))) is = cc in
      ((set_one i _ refl h.0 (ap (λ (i : Input). i.projection) head), refl), set_all is h.1 tail)

  pub new_set : (language : Language) → IsLanguage language → (text : List ℕ) (plan : BoundPlan) → plan_seen language d t text ≡ Ok plan
      → AreSet (projection_in d t) plan.plan.inputs plan.inputs (map (new_sim_stub hold base (projection_in d t)) plan.inputs)
  new_set language is text plan e = by (language.plan_of (schemas (found_by d t)) text) refl e
    where
      by : (r : Result Planned Refusal) → language.plan_of (schemas (found_by d t)) text ≡ r → bound_or (found_by d t) r ≡ Ok plan
          → AreSet (projection_in d t) plan.plan.inputs plan.inputs (map (new_sim_stub hold base (projection_in d t)) plan.inputs)
      by (Err refusal) made e = absurd cc
      by (Ok p) made e =
          subst (λ (plan : BoundPlan). AreSet (projection_in d t) plan.plan.inputs plan.inputs (map (new_sim_stub hold base (projection_in d t)) plan.inputs)) (bound_is (found_by d t) p plan e)
          (set_all p.inputs (is.reads (schemas (found_by d t)) text p made) (sees_all language is (found_by d t) text p made))
