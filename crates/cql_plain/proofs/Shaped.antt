-- What an operator of a shape keeps and tells.
use Rattle.std.proofs.Common.{◌≡◌, ℕ, ◌<◌, List, [], ◌∷◌, ◌++◌, true, false, if◌then◌else◌, Some, None, inl, inr, ◌⊎◌, refl, sym, ap, ◌∙◌, subst}
use Rattle.cql_bag.specs.Bag.{Counts}
use Rattle.cql_bag.specs.Changes.{changed}
use Rattle.cql_bag.specs.Law.{IsSameCountsLaw, IsPutAllLaw, IsTakeLaw}
use Rattle.cql_bag.specs.declared.change.Change.{Change}
use Rattle.cql_plan.specs.declared.fault.Fault.TheVariants as fault
use Rattle.cql_plan.specs.declared.node.Node.TheVariants as node
use Rattle.cql_plan.specs.declared.node.OperatorKind.TheVariants.{Shape as shape_kind}
use Rattle.cql_plan.specs.declared.node.Shape.{Shape}
use Rattle.cql_plan.specs.Fit.{is_grouped, IsTyped}
use Rattle.cql_plan.specs.Node.{item_types}
use Rattle.cql_algebra.specs.PlanLaws.{IsNodeTypesLaw, IsItemTypesLaw, IsChangeTypesLaw}
use Rattle.cql_algebra.specs.Shape.{items_on, plain_value, shape_value, groups_value, groups_in}
use Rattle.cql_algebra.specs.Typed.{HasTypes, AreOf}
use Rattle.cql_algebra.specs.Value.{or_overflow}
use Rattle.cql_ops.specs.Clauses.{AreChangesOf, IsFaulty}
use Rattle.cql_ops.specs.Linear.{with_change, turned_changes, image}
use Rattle.cql_ops.specs.OperatorModel.{OperatorModel}
use Rattle.cql_ops.specs.declared.error.OpError.{OpError}
use Rattle.cql_ops.specs.declared.error.OpError.TheVariants.{NoMemory, Overflow}
use Rattle.cql_plain.specs.Logs.{logged_bag, told_all, told_image, IsTellsLaw}
use Rattle.cql_plain.specs.Shaped.{KeepsRows, KeepsGroups, TellsShape, FailsToShape}
use Rattle.cql_plain.specs.Telling.{TellsOf}
use Rattle.cql_plain.specs.declared.projected.Projected.{Projected}
use Rattle.cql_ops.proofs.ByRow.{whole_value, no_value}
use Rattle.cql_ops.proofs.Linear.{IsBag-changed_by}

pub of_groups : (shape : Shape) (bag : Counts) → is_grouped shape ≡ true → shape_value shape bag ≡ groups_value shape.items (groups_in shape bag)
unfolding shape_value
of_groups shape bag e = ap (λ b. if b then groups_value shape.items (groups_in shape bag) else plain_value shape.items bag) e

pub of_rows : (shape : Shape) (bag : Counts) → is_grouped shape ≡ false → shape_value shape bag ≡ plain_value shape.items bag
unfolding shape_value
of_rows shape bag e = ap (λ b. if b then groups_value shape.items (groups_in shape bag) else plain_value shape.items bag) e

-- ---- pushes

pub groups_pushed : IsChangeTypesLaw → (shape : Shape) (port told : Counts) (c : Change) → HasTypes shape.columns c.row → KeepsGroups shape port told → KeepsGroups shape (changed c port) told
groups_pushed keeps shape port told c row has = record { grouped = has.grouped; in_port = keeps shape.columns c port has.in_port row; in_told = has.in_told }

-- ---- shapes with groups

module _ (types : IsNodeTypesLaw) (shape : Shape) (port told value : Counts) (has : KeepsGroups shape port told) (given : groups_value shape.items (groups_in shape port) ≡ Some value) where
  is : shape_value shape port ≡ Some value
  is = of_groups shape port has.grouped ∙ given

  value_types : IsTyped shape → AreOf (item_types shape.columns shape.items) value
  value_types typed = types (node.Shape shape) 0 (port ∷ []) value typed (has.in_port, tt) (ap or_overflow is)

  pub groups_keep : KeepsGroups shape port value
  groups_keep = record { grouped = has.grouped; in_port = has.in_port; in_told = value_types }

  pub groups_told : (before out : List Change) → TellsOf before out told value → TellsShape shape port told value before out
  groups_told before out (changes, grown, leads) = (
    changes,
    grown,
    record {
      there = leads.there;
      leads = sym leads.whole;
      value = is;
      columns = λ typed. leads.columns (item_types shape.columns shape.items) (has.in_told typed) (value_types typed);
    },
  )

pub groups_fail : (shape : Shape) (port : Counts) (e : OpError) → is_grouped shape ≡ true → (e ≡ NoMemory) ⊎ ((e ≡ Overflow) × (groups_value shape.items (groups_in shape port) ≡ None)) → FailsToShape shape port e
groups_fail shape port e g (inl none) = inl none
groups_fail shape port e g (inr (over, none)) = inr (over, of_groups shape port g ∙ none)

-- ---- shapes without groups

turned_types : (items : IsItemTypesLaw) (shape : Shape) → IsTyped shape → (cs : List Change) → AreChangesOf shape.columns cs → AreChangesOf (item_types shape.columns shape.items) (turned_changes (items_on shape.items) cs)
turned_types items shape typed [] all = tt
turned_types items shape typed (c ∷ cs) all =
    elim (items_on shape.items c.row) as (λ o. items_on shape.items c.row ≡ o → AreChangesOf (item_types shape.columns shape.items) (with_change c.plus o (turned_changes (items_on shape.items) cs))) [
      | None ↦ λ e. turned_types items shape typed cs all.1
      | Some row ↦ λ e. (items shape c.row row typed all.0 e, turned_types items shape typed cs all.1)
    ] refl

module _ (same : IsSameCountsLaw) (puts : IsPutAllLaw) (takes : IsTakeLaw) (shape : Shape) (rows : Projected) (has : KeepsRows shape rows) where
  abbrev bag : Counts
  bag = logged_bag rows.log

  pub rows_fail : 0 < rows.lacking → shape_value shape bag ≡ None
  rows_fail some = of_rows shape bag has.plain ∙ no_value shape.items bag (subst (λ n. 0 < n) has.lacking some)

  pub rows_whole : rows.lacking ≡ 0 → shape_value shape bag ≡ Some (image (items_on shape.items) bag)
  rows_whole none = of_rows shape bag has.plain ∙ whole_value shape.items bag (IsBag-changed_by same puts takes (rows.log.told ++ rows.log.untold) [] tt) (sym has.lacking ∙ none)

  pub rows_told : IsTellsLaw → IsItemTypesLaw → (before out : List Change) → rows.lacking ≡ 0 → out ≡ before ++ rows.untold.items → TellsShape shape bag (told_image (items_on shape.items) rows.log) (told_image (items_on shape.items) (told_all rows.log)) before out
  rows_told tells items before out none is =
      let f = items_on shape.items in
      let rest = tells f rows.log has.is_log in (
        turned_changes f rows.log.untold,
        is ∙ ap (λ l. before ++ l) has.untold,
        record {
          there = rest.there;
          leads = sym rest.told;
          value = rows_whole none ∙ ap (λ b. Some b) (sym rest.whole);
          columns = λ typed. turned_types items shape typed rows.log.untold has.columns;
        },
      )

-- ---- the operator

-- an operator of a shape that runs
abbrev pub running_shape : Shape → ℕ → Counts → Counts → OperatorModel
running_shape shape limit port told = record { kind = shape_kind; node = node.Shape shape; limit = limit; ports = port ∷ []; told = told; running = true }

pub faulty : (shape : Shape) (limit : ℕ) (port told : Counts) (e : OpError) → FailsToShape shape port e → IsFaulty (running_shape shape limit port told) e
faulty shape limit port told e (inl none) = inl none
faulty shape limit port told e (inr (over, none)) = inr (fault.Overflow, over, ap or_overflow none)
