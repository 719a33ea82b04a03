-- The laws of the core, in the product's language.
use Rattle.std.specs.Prelude.{◌≡◌, ℕ, ◌+◌, ◌≤◌, List, [], map, Some}
use Rattle.std.specs.List.{AllZip}
use Rattle.cql_value.specs.Element.{Element}
use Rattle.cql_window.specs.Through.{narrowed_all}
use Rattle.cql_window.specs.Laws.{IsHeldAt}
use Rattle.cql_tenants.specs.declared.tenants.Tenant.{Tenant}
use Rattle.cql_tenants.specs.Named.{find_named}
use Rattle.cql_tenants.specs.Namespace.{nothing_made}
use Rattle.cql_bag.specs.Bag.{Counts, bag_of}
use Rattle.cql_algebra.specs.PlanValue.{plan_value}
use Rattle.cql_algebra.specs.declared.relation.Relation.{Relation}
use Rattle.cql_algebra.specs.declared.relation.Relation.TheVariants.{Bag}
use Rattle.cql_eval.specs.Projected.{ProjectedWindow, windows_over}
use Rattle.cql_eval.specs.Relation.{relation_of, relation_at}
use Rattle.cql_core.specs.declared.command.Command.{Command}
use Rattle.cql_core.specs.Language.{IsLanguage}
use Rattle.cql_core.specs.View.{view}
use Rattle.cql_core.specs.Solo.{SoloQuery, solo_opening, solo_from, whole}
use Rattle.cql_core.specs.Cql.{cql}

-- the product's language is one of which the laws of the machine hold
abbrev pub IsCql : Type 0
IsCql = IsLanguage cql

-- the windows of a query over all its rows, each with its input's projection
abbrev pub windows_of : SoloQuery → List ProjectedWindow
windows_of q = windows_over q.plan.plan.inputs (map (whole q) q.plan.inputs)

-- a bag is that of those of a window's rows that it holds at an instant, by the columns of its input
pub record IsBagHeld (v : ProjectedWindow) (t : ℕ) (bag : Counts) : Type 0 where
  pub held : List Element
  pub holds : IsHeldAt v.window.window t v.window.unseen held
  pub is : bag ≡ bag_of (map (λ x. x.row) (narrowed_all v.projection held))

-- a relation is the plan's value of bags of those of a query's rows that its windows hold at an instant, input by input
pub record IsValueHeld (q : SoloQuery) (limit t : ℕ) (relation : Relation) : Type 0 where
  pub bags : List Counts
  pub held : AllZip (λ v bag. IsBagHeld v t bag) (windows_of q) bags
  pub is : relation ≡ relation_of (plan_value q.plan.plan limit bags)

-- a query's relation, by cursors: at an instant t from its base on, that is at the cursor t + 1, it is its plan's value of what its windows hold then; at the cursors up to the base, so before it, it is empty
pub record IsRelationOf (q : SoloQuery) (limit : ℕ) (relation : ℕ → Relation) : Type 0 where
  pub before : (c : ℕ) → c ≤ q.base → relation c ≡ Bag []
  pub from_base : (t : ℕ) → q.base ≤ t → IsValueHeld q limit t (relation (t + 1))

-- so it is with each query of a tenant over all its rows
abbrev pub IsRelationLaw : Type 0
IsRelationLaw = (table : List Tenant) (tenant : ℕ) (calls : List (ℕ × Command)) (name : List ℕ) (q : SoloQuery) (from next limit : ℕ)
    → find_named (solo_from cql tenant (solo_opening table tenant) (view tenant (nothing_made table) calls)).queries name ≡ Some q
    → IsRelationOf q limit (relation_at (record { plan = q.plan.plan; base = q.base; from = from; next = next; limit = limit; windows = map (whole q) q.plan.inputs }))
