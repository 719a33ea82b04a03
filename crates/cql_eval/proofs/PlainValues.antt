-- What a plan that shows all rows of one window comes to.
use Rattle.std.proofs.Common.{◌≡◌, ℕ, suc, ◌+◌, ◌*◌, List, [], ◌∷◌, ◌++◌, map, length, take, drop, Bool, true, false, if◌then◌else◌, nat_lt, Some, None, Result, Ok, Err, slice_get, refl, sym, ap, ◌∙◌, arith, append_assoc, length-append}
use Rattle.std.specs.List.{AllByRecursion, list_any}
use Rattle.cql_value.specs.declared.schema.ColumnType.{ColumnType}
use Rattle.cql_value.specs.declared.value.Value.{Value}
use Rattle.cql_value.specs.Schema.{HasTypes}
use Rattle.cql_bag.specs.Bag.{Counts, IsBag, put, put_rows, put_all, size_of}
use Rattle.cql_bag.specs.Changes.{change_of}
use Rattle.cql_bag.specs.Law.{IsEntriesLaw, IsPutAllLaw}
use Rattle.cql_plan.specs.declared.condition.Condition.TheVariants.{Always}
use Rattle.cql_plan.specs.declared.fault.Fault.{Fault as TheFault}
use Rattle.cql_plan.specs.declared.fault.Fault.TheVariants.{Oversize}
use Rattle.cql_plan.specs.declared.node.Join.{Join}
use Rattle.cql_plan.specs.declared.node.Node.TheVariants as node
use Rattle.cql_plan.specs.declared.node.Shape.{Shape}
use Rattle.cql_plan.specs.declared.plan.Planned.{Planned}
use Rattle.cql_plan.specs.Fit.{is_aggregate}
use Rattle.cql_plan.specs.Node.{port_count}
use Rattle.cql_plan.specs.Ports.{columns_from, IsPlain}
use Rattle.cql_algebra.specs.Join.{choices, joined}
use Rattle.cql_algebra.specs.PlanLaws.{IsChangeTypesLaw}
use Rattle.cql_algebra.specs.PlanValue.{once, on_bag, with_combined, plan_value}
use Rattle.cql_algebra.specs.Shape.{all_of, with_first, as_bag, item_value, items_on, items_at, times_over, plain_value, groups_in, groups_value, shape_value}
use Rattle.cql_algebra.specs.Typed.{AreOf}
use Rattle.cql_algebra.specs.Value.{value_of, or_overflow}
use Rattle.cql_algebra.proofs.Choices.{all_meet}
use Rattle.cql_algebra.proofs.Expressions.{column_value}

-- ---- the items

-- the values of a row behind others, each by its column
get_behind : (pre : List Value) (x : Value) (row : List Value) → slice_get (pre ++ x ∷ row) (length pre) ≡ Some x
get_behind [] x row = refl
get_behind (p ∷ pre) x row = get_behind pre x row

all_columns_on : (pre row : List Value) (columns : List ColumnType) → HasTypes columns row → all_of (map (item_value (pre ++ row)) (columns_from (length pre) columns)) ≡ Some row
all_columns_on pre [] [] types = refl
all_columns_on pre [] (t ∷ columns) types = absurd cc
all_columns_on pre (x ∷ row) [] types = absurd cc
all_columns_on pre (x ∷ row) (t ∷ columns) types =
    let rest : HasTypes columns row = cc in
    let more : length (pre ++ x ∷ []) ≡ suc (length pre) = omega (arith, length-append pre (x ∷ [])) in
    let whole : (pre ++ x ∷ []) ++ row ≡ pre ++ x ∷ row = append_assoc pre (x ∷ []) row in
    (λ i. with_first ((column_value (pre ++ x ∷ row) (length pre) ∙ get_behind pre x row) i) (all_of (map (item_value (sym whole i)) (columns_from (sym more i) columns))))
    ∙ ap (with_first (Some x)) (all_columns_on (pre ++ x ∷ []) row columns rest)

-- the items on a row are the row
pub row_shown : (columns : List ColumnType) (row : List Value) → HasTypes columns row → items_on (columns_from 0 columns) row ≡ Some row
row_shown columns row types = all_columns_on [] row columns types

entries_shown : (columns : List ColumnType) (bag : Counts) → AreOf columns bag → all_of (map (items_at (columns_from 0 columns)) bag) ≡ Some bag
entries_shown columns [] typed = refl
entries_shown columns (e ∷ es) typed =
    (λ i. with_first (times_over e.1 (row_shown columns e.0 typed.0 i)) (entries_shown columns es typed.1 i))

none_grouped : (index : ℕ) (columns : List ColumnType) → list_any is_aggregate (columns_from index columns) ≡ false
none_grouped index [] = refl
none_grouped index (t ∷ columns) = none_grouped (suc index) columns

-- a shape of all columns of its rows
abbrev pub whole_shape : List ColumnType → Shape
whole_shape columns = record { columns = columns; items = columns_from 0 columns; groups = [] }

shape_shown : IsEntriesLaw → (columns : List ColumnType) (bag : Counts) → IsBag bag → AreOf columns bag → shape_value (whole_shape columns) bag ≡ Some bag
unfolding shape_value
shape_shown entries columns bag is typed =
    ap (λ b. if b then groups_value (columns_from 0 columns) (groups_in (whole_shape columns) bag) else plain_value (columns_from 0 columns) bag) (none_grouped 0 columns)
    ∙ ap as_bag (entries_shown columns bag typed) ∙ ap (λ b. Some b) (entries bag is).1

-- ---- the join

one_choice : (bag : Counts) → choices [] 1 (bag ∷ []) ≡ bag
one_choice [] = refl
one_choice (e ∷ es) = let n : 1 * e.1 ≡ e.1 = omega arith in (λ i. (e.0, n i) ∷ one_choice es i)

abbrev pub whole_join : List ColumnType → Join
whole_join columns = record { ports = columns ∷ []; condition = Always }

one_joined : IsEntriesLaw → (bag : Counts) → IsBag bag → joined Always (bag ∷ []) ≡ bag
one_joined entries bag is = ap (λ l. put_all l []) (all_meet (choices [] 1 (bag ∷ [])) ∙ one_choice bag) ∙ (entries bag is).1

-- ---- the plan

-- the bag, unless it has too many rows
abbrev pub within_limit : ℕ → Counts → Result Counts TheFault
within_limit limit bag = if nat_lt limit (size_of bag) then Err Oversize else Ok bag

-- what the items show of a joined bag, alone and without DISTINCT
shown_alone : ℕ → List ColumnType → Result Counts TheFault → Result Counts TheFault
shown_alone limit columns joined = on_bag (with_combined None limit []) (on_bag (once None limit) (on_bag (λ j. value_of (node.Shape (whole_shape columns)) limit (j ∷ [])) joined))

shaped : (columns : List ColumnType) (limit : ℕ) (bag : Counts) (b : Bool) → shape_value (whole_shape columns) bag ≡ Some bag → shown_alone limit columns (if b then Err Oversize else Ok bag) ≡ (if b then Err Oversize else Ok bag)
unfolding shown_alone
shaped columns limit bag true shape = refl
shaped columns limit bag false shape = ap (λ o. on_bag (with_combined None limit []) (on_bag (once None limit) (or_overflow o))) shape

pub plain_is : IsEntriesLaw → (p : Planned) (plain : IsPlain p) (limit : ℕ) (bag : Counts) → IsBag bag → AreOf plain.columns bag → plan_value p limit (bag ∷ []) ≡ within_limit limit bag
unfolding plan_value shown_alone
plain_is entries p plain limit bag is typed =
    let columns = plain.columns in
    (λ i. on_bag (with_combined (plain.combined i) limit (drop (port_count (plain.join i)) (bag ∷ [])))
    (on_bag (once (plain.distinct i) limit) (on_bag (λ j. value_of (plain.shape i) limit (j ∷ [])) (value_of (plain.join i) limit (take (port_count (plain.join i)) (bag ∷ []))))))
    ∙ ap (λ j. shown_alone limit columns (if nat_lt limit (size_of j) then Err Oversize else Ok j)) (one_joined entries bag is)
    ∙ shaped columns limit bag (nat_lt limit (size_of bag)) (shape_shown entries columns bag is typed)

-- ---- the bag of rows

pub size_rows : IsPutAllLaw → (rows : List (List Value)) (bag : Counts) → size_of (put_rows rows bag) ≡ size_of bag + length rows
size_rows puts [] bag = omega arith
size_rows puts (row ∷ rows) bag =
    let one = (puts ((row, 1) ∷ []) bag).2 in
    let more = size_rows puts rows (put row bag) in
    omega (arith, one, more)

pub rows_typed : IsChangeTypesLaw → (columns : List ColumnType) (rows : List (List Value)) (bag : Counts) → AreOf columns bag → AllByRecursion (HasTypes columns) rows → AreOf columns (put_rows rows bag)
rows_typed law columns [] bag typed all = typed
rows_typed law columns (row ∷ rows) bag typed all = rows_typed law columns rows (put row bag) (law columns (change_of true row) bag typed all.0) all.1
