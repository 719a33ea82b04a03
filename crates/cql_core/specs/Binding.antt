-- The streams of a plan's inputs: those that are found under the names in the text.
use Rattle.std.specs.Prelude.{◌≡◌, ℕ, List, [], ◌∷◌, Some, Ok, Err}
use Rattle.cql_plan.specs.declared.plan.Input.{Input}
use Rattle.cql_tenants.specs.Readable.{StreamView}
use Rattle.cql_core.specs.declared.refusal.Refusal.{Refusal}
use Rattle.cql_core.specs.StreamId.{stream_id_of}
use Rattle.cql_core.specs.Bound.{StreamLookup, schemas, BoundInput, BoundPlan}
use Rattle.cql_core.specs.Language.{Language, IsLanguage, plan_over}

-- each input is of the stream that is found under its name, seen through the plan's window
abbrev pub AreBound : StreamLookup → List Input → List BoundInput → Type 0
AreBound found [] [] = Unit {0}
AreBound found [] (b ∷ bs) = ⊥
AreBound found (i ∷ is) [] = ⊥
AreBound found (i ∷ is) (b ∷ bs) = ((s : StreamView) × (found i.owner i.stream ≡ Some s) × (b.stream_id ≡ stream_id_of s.owner i.stream) × (b.window ≡ i.window) × (b.projection ≡ i.projection)) × AreBound found is bs

-- a text has the language's plan over the columns of the streams that are found, on just these streams, or the language's refusal
pub record BindingLaw (language : Language) (found : StreamLookup) (text : List ℕ) : Type 0 where
  pub planned : (plan : BoundPlan) → plan_over language found text ≡ Ok plan → (language.plan_of (schemas found) text ≡ Ok plan.plan) × AreBound found plan.plan.inputs plan.inputs
  pub refused : (refusal : Refusal) → language.plan_of (schemas found) text ≡ Err refusal → plan_over language found text ≡ Err refusal

abbrev pub IsBindingLaw : Type 0
IsBindingLaw = (language : Language) → IsLanguage language → (found : StreamLookup) (text : List ℕ) → BindingLaw language found text
