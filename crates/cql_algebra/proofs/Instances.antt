-- The laws of nodes and of what changes them, at bags worked by hand: a premise that these don't meet is refused here.
use Rattle.std.proofs.Common.{◌≡◌, ◌≢◌, ℕ, ◌+◌, pos, List, [], ◌∷◌, true, false, if◌then◌else◌, Option, Some, None, slice_get, inl, refl, sym, ap, ◌∙◌, subst, arith, rules}
use Rattle.std.specs.List.{filter, AllByRecursion, AllZip, Contains}
use Rattle.cql_value.specs.declared.value.Value.{Value}
use Rattle.cql_value.specs.declared.value.Value.TheVariants.{Number}
use Rattle.cql_value.specs.declared.schema.ColumnType.{ColumnType}
use Rattle.cql_value.specs.declared.schema.ColumnType.TheVariants as type
use Rattle.cql_syntax.specs.declared.syntax.Comparison.TheVariants.{Equal}
use Rattle.cql_bag.specs.Bag.{Counts, IsBag, count, bag_of, size_of}
use Rattle.cql_bag.specs.Changes.{changed, CanChange}
use Rattle.cql_bag.specs.declared.change.Change.{Change}
use Rattle.cql_plan.specs.declared.condition.Condition.{Condition}
use Rattle.cql_plan.specs.declared.condition.Condition.TheOpen.{Condition-F}
use Rattle.cql_plan.specs.declared.condition.Condition.TheVariants.{Compare, rolls-Compare}
use Rattle.cql_plan.specs.declared.condition.Condition.TheFolds.{fold-Condition, fold-roll-Condition}
use Rattle.cql_plan.specs.declared.condition.Operand.TheVariants as operand
use Rattle.cql_plan.specs.declared.expr.Expr.TheOpen.{Expr-F}
use Rattle.cql_plan.specs.declared.expr.Expr.TheVariants.{Column, rolls-Column}
use Rattle.cql_plan.specs.declared.expr.Expr.TheFolds.{fold-Expr, fold-roll-Expr}
use Rattle.cql_plan.specs.declared.node.Item.TheVariants as i
use Rattle.cql_plan.specs.declared.node.Node.TheVariants as node
use Rattle.cql_plan.specs.declared.node.Shape.{Shape}
use Rattle.cql_plan.specs.Condition.{holds}
use Rattle.cql_plan.specs.Expr.{expr_value}
use Rattle.cql_plan.specs.Fit.{type_step, expr_type, HasColumn, IsTyped}
use Rattle.cql_plan.specs.Node.{with_type}
use Rattle.cql_algebra.specs.Equalities.{equality_step, equalities}
use Rattle.cql_algebra.specs.Examples.{one, two}
use Rattle.cql_algebra.specs.GroupChanges.{IsKeyChange, IsKeyChangeLaw, IsOneGroupLaw, IsOfGroups, IsOfGroupsLaw, IsFewer, IsFewerLaw, AreEnds, AreEndsLaw, over_groups}
use Rattle.cql_algebra.specs.Groups.{IsKeyLaw, IsOnceKeyLaw, IsGroup, IsGroupLaw, IsGroupedColumnLaw, HasRowForEachKey, IsKeysLaw, AreGroups, IsGroupsLaw}
use Rattle.cql_algebra.specs.Join.{joined}
use Rattle.cql_algebra.specs.JoinChanges.{AreLinked, IsJoinedMore, IsJoinedMoreLaw, IsJoinedLess, IsJoinedLessLaw, IsLookUpLaw}
use Rattle.cql_algebra.specs.JoinLaws.{IsJoinedLaw, IsJoinedTypesLaw}
use Rattle.cql_algebra.specs.KeptGroups.{Group, Groups, port_in, rows_at, IsGroupOf, AreKept, AreTheGroups, AreTheGroupsLaw, IsKeptValue, IsKeptValueLaw, AreElseSame, IsPushLaw, IsCanPushLaw, IsSampleLaw}
use Rattle.cql_algebra.specs.PlanLaws.{IsItemTypesLaw, IsGroupTypesLaw, IsNodeTypesLaw, IsChangeTypesLaw}
use Rattle.cql_algebra.specs.Shape.{with_first, key_of, group_of, item_over, shape_value}
use Rattle.cql_algebra.specs.ShapeLaws.{IsValued, IsExpressionLaw, IsPlain, IsPlainItemsLaw, IsOverflow, IsOverflowLaw}
use Rattle.cql_algebra.specs.Sums.{once}
use Rattle.cql_algebra.specs.Told.{Choice, IsHeldAt, told_by, IsNoneLaw, sifted, IsSiftLaw}
use Rattle.cql_algebra.specs.Typed.{HasTypes, AreOf}
use Rattle.cql_algebra.specs.ValueLaws.{IsOfBags, IsOfBagsLaw}
use Rattle.cql_algebra.proofs.Expressions.{column_value}

-- THE BAGS
abbrev number : List ColumnType
number = type.Number ∷ []

abbrev pair : List ColumnType
pair = type.Number ∷ type.Number ∷ []

abbrev numbers : Counts
numbers = (one 1, 1) ∷ (one 2, 3) ∷ []

abbrev few : Counts
few = (two 1 4, 1) ∷ (two 1 6, 2) ∷ []

abbrev many : Counts
many = (two 2 16, 3) ∷ []

abbrev pairs : Counts
pairs = (two 1 4, 1) ∷ (two 1 6, 2) ∷ (two 2 16, 3) ∷ []

-- a port of one row, and one of numbers
abbrev ports : List Counts
ports = once (one 2) ∷ numbers ∷ []

numbers_are : IsBag numbers
numbers_are = search rules

few_are : IsBag few
few_are = search rules

pairs_are : IsBag pairs
pairs_are = search rules

ports_are : AllByRecursion IsBag ports
ports_are = search rules

numbers_of : AreOf number numbers
numbers_of = search rules

few_of : AreOf pair few
few_of = search rules

pairs_of : AreOf pair pairs
pairs_of = search rules

ports_of : AllZip AreOf (number ∷ number ∷ []) ports
ports_of = search rules

has_columns : AllByRecursion (HasColumn pair) (0 ∷ [])
has_columns = ((type.Number, refl), tt)

-- THE SHAPES
-- the sum and the count of each group
abbrev summed : Shape
summed = record { columns = pair; items = i.Sum 1 ∷ i.Count ∷ []; groups = 0 ∷ [] }

-- the key of each group
abbrev keyed : Shape
keyed = record { columns = pair; items = i.Value (Column 0) ∷ []; groups = 0 ∷ [] }

column_type : expr_type pair (Column 0) ≡ Some type.Number
unfolding expr_type
column_type = ap (fold-Expr (Option ColumnType) (type_step pair)) (sym (rolls-Column 0)) ∙ fold-roll-Expr (Option ColumnType) (type_step pair) (Expr-F.Column 0)

first : Contains {X = ℕ} (0 ∷ []) 0
first = (0, omega arith, refl)

summed_fits : IsTyped summed
summed_fits = record { items = (refl, (tt, tt)); groups = has_columns; grouped = λ e. (tt, (tt, tt)) }

keyed_fits : IsTyped keyed
keyed_fits = record { items = ((type.Number, column_type), tt); groups = has_columns; grouped = λ e. ((0, refl, first), tt) }

has_groups : summed.groups ≢ []
has_groups e = absurd cc

summed_value : shape_value summed pairs ≡ Some ((two 16 3, 1) ∷ (two 48 3, 1) ∷ [])
unfolding shape_value
summed_value = refl

-- ITEMS AND GROUPS
expression_law_at : IsExpressionLaw → IsValued (two 1 4) (Column 0) type.Number
expression_law_at law = law pair (two 1 4) (Column 0) type.Number refl column_type

plain_items_law_at : IsPlainItemsLaw → IsPlain (i.Value (Column 0) ∷ []) pairs
plain_items_law_at law = law (i.Value (Column 0) ∷ []) pairs pairs_are

key_law_at : IsKeyLaw → AllZip (λ at v. slice_get (two 1 4) at ≡ Some v) (0 ∷ []) (one 1)
key_law_at law = law pair (0 ∷ []) (two 1 4) refl has_columns

-- the column that is said twice, and rows that agree in it
twice : AllByRecursion (HasColumn pair) (0 ∷ 0 ∷ [])
twice = ((type.Number, refl), ((type.Number, refl), tt))

once_key_law_at : IsOnceKeyLaw → key_of (0 ∷ []) (two 1 4) ≡ key_of (0 ∷ []) (two 1 6)
once_key_law_at law = (law pair (0 ∷ 0 ∷ []) (two 1 4) (two 1 6) refl refl twice).1 refl

group_law_at : IsGroupLaw → IsGroup (0 ∷ []) pairs (one 1)
group_law_at law = law (0 ∷ []) pairs (one 1) pairs_are

groups_law_at : IsGroupsLaw → AreGroups summed pairs
groups_law_at law = law summed pairs pairs_are

keys_law_at : IsKeysLaw → HasRowForEachKey summed pairs ((two 16 3, 1) ∷ (two 48 3, 1) ∷ [])
keys_law_at law = law summed pairs ((two 16 3, 1) ∷ (two 48 3, 1) ∷ []) pairs_are has_groups summed_value

overflow_law_at : IsOverflowLaw → IsOverflow keyed pairs
overflow_law_at law = law keyed pairs keyed_fits pairs_are pairs_of

grouped_column_law_at : IsGroupedColumnLaw → item_over few (i.Value (Column 0)) ≡ Some (Number (pos 1))
grouped_column_law_at law = law pair (0 ∷ []) pairs (one 1) 0 pairs_of has_columns first (two 1 6, 2) (1, omega arith, refl)

item_types_law_at : IsItemTypesLaw → HasTypes number (one 1)
item_types_law_at law = subst (λ o. HasTypes (with_type o []) (one 1)) column_type (law keyed (two 1 4) (one 1) keyed_fits refl (ap (λ o. with_first o (Some [])) (column_value (two 1 4) 0)))

group_types_law_at : IsGroupTypesLaw → HasTypes pair (two 16 3)
group_types_law_at law = law summed few (two 16 3) summed_fits few_of refl

node_types_law_at : IsNodeTypesLaw → AreOf pair ((two 16 3, 1) ∷ (two 48 3, 1) ∷ [])
unfolding shape_value
node_types_law_at law = law (node.Shape summed) 100 (pairs ∷ []) ((two 16 3, 1) ∷ (two 48 3, 1) ∷ []) summed_fits (pairs_of, tt) refl

change_types_law_at : IsChangeTypesLaw → AreOf number ((one 1, 1) ∷ (one 2, 3) ∷ (one 5, 1) ∷ [])
change_types_law_at law = law number (record { plus = true; row = one 5 }) numbers numbers_of refl

bags_law_at : IsOfBagsLaw → IsOfBags 100 ports number
bags_law_at law = law 100 ports number ports_are.0 numbers_are

-- JOINS
-- the column of the first port is the column of the second
abbrev equal : Condition
equal = Compare (operand.Column 0) Equal (operand.Column 1)

equality : equalities equal ≡ (0, 1) ∷ []
unfolding equalities
equality = ap (fold-Condition (List (ℕ × ℕ)) equality_step) (sym (rolls-Compare (operand.Column 0) Equal (operand.Column 1))) ∙ fold-roll-Condition (List (ℕ × ℕ)) equality_step (Condition-F.Compare (operand.Column 0) Equal (operand.Column 1))

are_linked : AreLinked equal (number ∷ number ∷ []) 0 0 1 0
are_linked = record {
  apart = λ e. absurd (omega (arith, e));
  first = (number, refl, omega arith);
  second = (number, refl, omega arith);
  equal = inl (subst (λ ps. Contains ps (0, 1)) (sym equality) (0, omega arith, refl));
}

abbrev chosen : Choice
chosen = Some (one 2) ∷ None ∷ []

are_held : AllZip IsHeldAt chosen ports
are_held = (refl, (tt, tt))

joined_law_at : IsJoinedLaw → joined equal ports ≡ bag_of (filter (λ row. holds row equal) (two 2 1 ∷ two 2 2 ∷ two 2 2 ∷ two 2 2 ∷ []))
joined_law_at law = law equal ports ports_are

joined_types_law_at : IsJoinedTypesLaw → AreOf pair (joined equal ports)
joined_types_law_at law = law equal (number ∷ number ∷ []) ports ports_of

joined_more_law_at : IsJoinedMoreLaw → IsJoinedMore equal ports 1 (one 5)
joined_more_law_at law = law equal ports 1 (one 5) ports_are (omega arith)

joined_less_law_at : IsJoinedLessLaw → IsJoinedLess equal ports 1 (one 2)
joined_less_law_at law = law equal ports 1 (one 2) ports_are (omega arith) (omega arith)

look_up_law_at : IsLookUpLaw → joined equal ports ≡ joined equal (once (one 2) ∷ ((one 2, 3) ∷ []) ∷ [])
look_up_law_at law = law equal (number ∷ number ∷ []) ports 0 0 1 0 (one 2) ports_are ports_of are_linked refl

-- where a condition is told to fail
none_law_at : IsNoneLaw → (condition : Condition) → told_by (number ∷ number ∷ []) chosen condition ≡ Some false → joined condition ports ≡ []
none_law_at law condition fails = law condition (number ∷ number ∷ []) ports chosen ports_are ports_of are_held fails

sift_law_at : IsSiftLaw → joined equal ports ≡ joined equal (once (one 2) ∷ sifted equal (number ∷ number ∷ []) 1 numbers ∷ [])
sift_law_at law = law equal (number ∷ number ∷ []) ports 1 ports_are ports_of

-- CHANGES OF A GROUP
abbrev gone : Change
gone = record { plus = false; row = two 1 4 }

can_go : CanChange gone pairs
can_go e = omega arith

key_change_law_at : IsKeyChangeLaw → IsKeyChange (0 ∷ []) pairs gone
key_change_law_at law = law (0 ∷ []) pairs gone pairs_are can_go

-- 6 rows of two groups; without one of them 5, where its group had 3 and has 2
one_group_law_at : IsOneGroupLaw → over_groups (0 ∷ []) size_of ((two 1 6, 2) ∷ many) + 3 ≡ over_groups (0 ∷ []) size_of pairs + 2
one_group_law_at law = law (0 ∷ []) size_of pairs gone pairs_are can_go refl

of_groups_law_at : IsOfGroupsLaw → IsOfGroups summed pairs
of_groups_law_at law = law summed pairs pairs_are has_groups

fewer_law_at : IsFewerLaw → IsFewer 1 few (two 1 6)
fewer_law_at law = law 1 few (two 1 6) few_are (omega arith)

ends_law_at : AreEndsLaw → AreEnds 1 pairs
ends_law_at law = law pair 1 pairs pairs_are pairs_of (type.Number, refl)

-- KEPT GROUPS
abbrev group : Counts → Group
group rows = record { rows = rows; told = None }

abbrev kept : Counts → Groups
kept rows = (one 1, group rows) ∷ (one 2, group many) ∷ []

abbrev after : Counts
after = (two 1 6, 2) ∷ []

-- a group is what the bag has of its key
module _ (groups_law : IsGroupLaw) where
  is_group : (bag : Counts) (key : List Value) → IsBag bag → IsGroupOf (0 ∷ []) key (group (group_of (0 ∷ []) bag key))
  is_group bag key are =
      let law : IsGroup (0 ∷ []) bag key = groups_law (0 ∷ []) bag key are in
      record { is_bag = law.is_bag; has_key = λ row other. law.counts row ∙ ap (λ b. if b then count row bag else 0) other }

  are_kept : AreKept (0 ∷ []) (kept few)
  are_kept = (is_group pairs (one 1) pairs_are, (refl, tt), (is_group pairs (one 2) pairs_are, tt, tt))

  are_after : AreKept (0 ∷ []) (kept after)
  are_after = (is_group (changed gone pairs) (one 1) (search rules), (refl, tt), (is_group pairs (one 2) pairs_are, tt, tt))

  the_groups_law_at : AreTheGroupsLaw → AreTheGroups (0 ∷ []) (kept few)
  the_groups_law_at law = law (0 ∷ []) (kept few) are_kept

  kept_value_law_at : IsKeptValueLaw → IsKeptValue summed (kept few)
  kept_value_law_at law = law summed (kept few) has_groups are_kept

  else_same : AreElseSame (one 1) (kept few) (kept after)
  else_same key other = ap (λ b. if b then after else rows_at key ((one 2, group many) ∷ [])) other ∙ sym (ap (λ b. if b then few else rows_at key ((one 2, group many) ∷ [])) other)

  push_law_at : IsPushLaw → port_in (kept after) ≡ changed gone (port_in (kept few))
  push_law_at law = law (0 ∷ []) (kept few) (kept after) gone are_kept are_after refl else_same

  can_push_law_at : IsCanPushLaw → CanChange gone few
  can_push_law_at law = law (0 ∷ []) (kept few) gone are_kept can_go

  sample_law_at : IsSampleLaw → item_over few (i.Value (Column 0)) ≡ expr_value (two 1 9) (Column 0)
  sample_law_at law = law pair (0 ∷ []) (one 1) (group few) (two 1 9) (Column 0) are_kept.0 few_of has_columns refl refl (0, refl, first) (λ e. absurd cc)
