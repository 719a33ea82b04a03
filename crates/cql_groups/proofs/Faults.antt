-- What a shape that is kept by its groups knows of its fault.
use Rattle.std.proofs.Common.{◌≡◌, ℕ, ◌<◌, ◌≤◌, Bool, true, false, if◌then◌else◌, Option, Some, None, refl, sym, ap, ◌∙◌, subst, arith}
use Rattle.std.specs.Prelude.{IfSome, Result, Ok, Err}
use Rattle.cql_bag.specs.Bag.{Counts, IsBag}
use Rattle.cql_plan.specs.declared.fault.Fault.{Fault}
use Rattle.cql_plan.specs.declared.fault.Fault.TheVariants.{Overflow}
use Rattle.cql_plan.specs.declared.node.Shape.{Shape}
use Rattle.cql_algebra.specs.Shape.{shape_value}
use Rattle.cql_algebra.specs.Value.{or_overflow}
use Rattle.cql_ops.specs.Clauses.{fault_in, model_value, IsAtFault}
use Rattle.cql_ops.specs.OperatorModel.{OperatorModel}
use Rattle.cql_groups.specs.GroupLaws.{Laws}
use Rattle.cql_groups.specs.GroupShape.{known_fault}
use Rattle.cql_groups.specs.Grouped.{lacking_groups}
use Rattle.cql_groups.specs.Keyed.{IsKeyed}
use Rattle.cql_groups.proofs.GroupKeys.{lacking_is}

module _ (laws : Laws) (shape : Shape) (port : Counts) (lacking : ℕ) (keyed : IsKeyed shape) (is : IsBag port) (counts : lacking ≡ lacking_groups shape port) where
  -- some group has no value
  pub at_fault : 0 < lacking → Some Overflow ≡ fault_in (or_overflow (shape_value shape port))
  at_fault some = sym (ap (λ o. fault_in (or_overflow o)) ((lacking_is laws shape port keyed is).1 (subst (λ n. 0 < n) counts some)))

  -- each has one
  pub no_fault : lacking ≡ 0 → None ≡ fault_in (or_overflow (shape_value shape port))
  no_fault none = by_value (shape_value shape port) refl
    where
      by_value : (o : Option Counts) → shape_value shape port ≡ o → None ≡ fault_in (or_overflow o)
      by_value (Some value) h = refl
      by_value None h = absurd (let some : 1 ≤ lacking_groups shape port = (lacking_is laws shape port keyed is).0 h in omega (arith, counts, none, some))

-- while it runs
pub known_some : (b : Bool) (r : Option Fault) → b ≡ true → Some Overflow ≡ r → Some Overflow ≡ (if b then r else None)
known_some b r run h = h ∙ sym (ap (λ t. if t then r else None) run)

pub known_none : (b : Bool) (r : Option Fault) → (b ≡ true → None ≡ r) → None ≡ (if b then r else None)
known_none true r h = h refl
known_none false r h = refl

in_err : (r : Result Counts Fault) (f : Fault) → Some f ≡ fault_in r → r ≡ Err f
in_err (Ok bag) f h = absurd cc
in_err (Err g) f h = (let same : f ≡ g = cc in ap (λ e. Err e) (sym same))

-- who knows the fault says no other
pub is_at_fault : (s : OperatorModel) (o : Option Fault) → o ≡ known_fault s → IfSome o (IsAtFault s)
is_at_fault s None h = tt
is_at_fault s (Some f) h = by_running s.running refl
  where
    by_running : (b : Bool) → s.running ≡ b → IsAtFault s f
    by_running true r = record { running = r; value = in_err (model_value s) f (h ∙ ap (λ b. if b then fault_in (model_value s) else None) r) }
    by_running false r = absurd (let none : Some f ≡ None = h ∙ ap (λ b. if b then fault_in (model_value s) else None) r in cc)
