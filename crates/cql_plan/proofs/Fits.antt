-- The nodes of a plan fit each other.
use Rattle.std.proofs.Common.{◌≡◌, ℕ, suc, ◌+◌, ◌==◌, length, List, [], ◌∷◌, ◌++◌, Bool, true, false, not, ◌||◌, ◌&&◌, Option, Some, None, Ok, slice_get, refl, sym, ap, ◌∙◌, subst, arith}
use Rattle.std.specs.Prelude.{IfSome}
use Rattle.std.specs.List.{AllByRecursion, AllZip, list_any, list_all, zip}
use Rattle.std.proofs.lemmas.Bool.Decides.{nat_tests}
use Rattle.std.proofs.lemmas.List.{map-append}
use Rattle.std.proofs.lemmas.Bool.{and_parts}
use Rattle.cql_value.specs.declared.schema.ColumnType.{ColumnType}
use Rattle.cql_value.specs.declared.schema.ColumnType.TheVariants.{Number, Text}
use Rattle.cql_syntax.specs.declared.syntax.QualifiedName.{QualifiedName}
use Rattle.cql_syntax.specs.declared.syntax.Function.{Function}
use Rattle.cql_syntax.specs.declared.syntax.Function.TheVariants.{Sum, Min, Max}
use Rattle.cql_syntax.specs.declared.syntax.Aggregate.TheVariants as aggregate
use Rattle.cql_syntax.specs.declared.syntax.Shown.{Shown}
use Rattle.cql_syntax.specs.declared.syntax.Shown.TheVariants as shown
use Rattle.cql_syntax.specs.declared.syntax.Item.{Item as WrittenItem}
use Rattle.cql_syntax.specs.declared.syntax.Selection.{Selection}
use Rattle.cql_syntax.specs.declared.syntax.Selection.TheVariants as selection
use Rattle.cql_syntax.specs.declared.syntax.SelectBlock.{SelectBlock}
use Rattle.cql_syntax.specs.declared.syntax.Second.{Second}
use Rattle.cql_window.specs.Once.{once}
use Rattle.cql_plan.specs.declared.expr.Expr.TheVariants as e
use Rattle.cql_plan.specs.declared.node.Item.{Item}
use Rattle.cql_plan.specs.declared.node.Item.TheVariants as i
use Rattle.cql_plan.specs.declared.node.Node.{Node}
use Rattle.cql_plan.specs.declared.node.OperatorKind.TheVariants.{Join, Shape, Distinct}
use Rattle.cql_plan.specs.declared.row.Field.{Field}
use Rattle.cql_plan.specs.declared.row.FoundColumn.{FoundColumn}
use Rattle.cql_plan.specs.declared.source.BlockInput.{BlockInput}
use Rattle.cql_plan.specs.declared.item.TypedItem.{TypedItem}
use Rattle.cql_plan.specs.declared.block.Checked.{Checked}
use Rattle.cql_plan.specs.declared.plan.OutputKind.{OutputKind}
use Rattle.cql_plan.specs.declared.plan.Planned.{Planned}
use Rattle.cql_plan.specs.Outcome.{Outcome, ◌>>=◌, ◌>>◌, unless, each}
use Rattle.cql_plan.specs.Columns.{kinds_of, column_of}
use Rattle.cql_plan.specs.Sources.{SchemaLookup, source_of, are_apart, joined_row, ports_of, inputs_of}
use Rattle.cql_plan.specs.Typing.{same_kind, same_kinds, expression_of, group_of, is_among, is_column, is_grouped_by, function_of, aggregate_of, shown_of, item_of, all_items, items_of, is_aggregate as is_written_aggregate, has_aggregate, is_grouped as is_written_grouped, where_of, distinct_of, shown_in, kinds_in, join_of, shape_of, checked_of, body_of, block_of, output_of, alone, combined, with_second, typing}
use Rattle.cql_plan.specs.Law.{IsFormLaw}
use Rattle.cql_plan.specs.Fit.{is_empty, expr_type, is_aggregate, HasColumn, IsTypedItem, IsGroupedItem, is_typed_condition, all_columns}
use Rattle.cql_plan.specs.Node.{kind_of_node, item_type, with_type, item_types, result_columns, Feeds}
use Rattle.cql_plan.specs.Plan.{last_of, last_node, IsBlock, IsCombined}
use Rattle.cql_plan.proofs.Each.{passes}
use Rattle.cql_plan.proofs.FitExpressions.{passed, ok_is, each_ok, column_found, column_type, is_number, expression_typed, among}
use Rattle.cql_plan.proofs.FitConditions.{where_typed}
use Rattle.cql_plan.proofs.Once.{all_once, all_grouped_once}

-- ---- items

-- what an item that passes is: it fits the columns and gives its kind, a grouped block allows it, and it is an aggregate only where one was written
record Fits (fields : List Field) (grouped : Bool) (groups : List ℕ) (plain : Bool) (t : TypedItem) : Type 0 where
  typed : IsTypedItem (kinds_of fields) t.item
  gives : item_type (kinds_of fields) t.item ≡ Some t.kind
  allowed : grouped ≡ true → IsGroupedItem groups t.item
  same : plain ≡ true → is_aggregate t.item ≡ false

over : (fields : List Field) (grouped : Bool) (groups : List ℕ) (function : Function) (f : FoundColumn) (t : TypedItem) → slice_get (kinds_of fields) f.column ≡ Some f.kind → function_of function f ≡ Ok t → Fits fields grouped groups false t
over fields grouped groups Sum f t is h =
    let made : TypedItem = record { item = i.Sum f.column; kind = Number } in
    let done = passed (same_kind f.kind Number) _ (Ok made) t h in
    subst (Fits fields grouped groups false) (ok_is made t done.1) (record { typed = is ∙ ap (λ k. Some k) (is_number f.kind done.0); gives = refl; allowed = λ g. tt; same = λ p. absurd cc })
over fields grouped groups Min f t is h =
    subst (Fits fields grouped groups false) (ok_is (record { item = i.Min f.column; kind = f.kind }) t h) (record { typed = (f.kind, is); gives = is; allowed = λ g. tt; same = λ p. absurd cc })
over fields grouped groups Max f t is h =
    subst (Fits fields grouped groups false) (ok_is (record { item = i.Max f.column; kind = f.kind }) t h) (record { typed = (f.kind, is); gives = is; allowed = λ g. tt; same = λ p. absurd cc })

abbrev is_plain : Shown → Bool
is_plain (shown.Aggregate written) = false
is_plain (shown.Expression written) = true

allowed_by : (grouped : Bool) (c m : Bool) → (not grouped || (c && m)) ≡ true → grouped ≡ true → m ≡ true
allowed_by true c m h g = (and_parts c m h).1
allowed_by false c m h g = absurd cc

item_fits : (fields : List Field) (grouped : Bool) (groups : List ℕ) (written : Shown) (t : TypedItem) → shown_of fields grouped groups written ≡ Ok t → Fits fields grouped groups (is_plain written) t
unfolding shown_of aggregate_of
item_fits fields grouped groups (shown.Aggregate aggregate.Count) t h =
    subst (Fits fields grouped groups false) (ok_is (record { item = i.Count; kind = Number }) t h) (record { typed = tt; gives = refl; allowed = λ g. tt; same = λ p. absurd cc })
item_fits fields grouped groups (shown.Aggregate (aggregate.Over function column)) t h =
    let b = passes (column_of fields column) (λ found. function_of function found) t h in
    over fields grouped groups function b.0 t (column_found fields column b.0 b.1) b.2
item_fits fields grouped groups (shown.Expression x) t h =
    let b = passes (expression_of fields x) (λ typed. unless (not grouped || is_grouped_by groups x typed.expr) _ >> Ok (record { item = i.Value typed.expr; kind = typed.kind })) t h in
    let typed = b.0 in
    let made : TypedItem = record { item = i.Value typed.expr; kind = typed.kind } in
    let done = passed (not grouped || is_grouped_by groups x typed.expr) _ (Ok made) t b.2 in
    subst (Fits fields grouped groups true) (ok_is made t done.1) (record {
      typed = (typed.kind, expression_typed fields x typed b.1);
      gives = expression_typed fields x typed b.1;
      allowed = λ g. among groups typed.expr (allowed_by grouped (is_column x) (is_among groups typed.expr) done.0 g);
      same = λ p. refl;
    })

-- what all items are
record AllFit (fields : List Field) (grouped : Bool) (groups : List ℕ) (plain : Bool) (items : List TypedItem) : Type 0 where
  typed : AllByRecursion (IsTypedItem (kinds_of fields)) (shown_in items)
  gives : item_types (kinds_of fields) (shown_in items) ≡ kinds_in items
  allowed : grouped ≡ true → AllByRecursion (IsGroupedItem groups) (shown_in items)
  same : plain ≡ true → list_any is_aggregate (shown_in items) ≡ false

one_more : (fields : List Field) (grouped : Bool) (groups : List ℕ) (p q : Bool) (item : TypedItem) (items : List TypedItem) → Fits fields grouped groups p item → AllFit fields grouped groups q items → AllFit fields grouped groups (p && q) (item ∷ items)
one_more fields grouped groups p q item items one all = record {
  typed = (one.typed, all.typed);
  gives = ap (λ k. with_type k (item_types (kinds_of fields) (shown_in items))) one.gives ∙ ap (λ l. item.kind ∷ l) all.gives;
  allowed = λ g. (one.allowed g, all.allowed g);
  same = λ h. (let b = and_parts p q h in ap (λ x. x || list_any is_aggregate (shown_in items)) (one.same b.0) ∙ all.same b.1);
}

abbrev are_plain : List WrittenItem → Bool
are_plain [] = true
are_plain (x ∷ xs) = is_plain x.shown && are_plain xs

items_fit : (fields : List Field) (grouped : Bool) (groups : List ℕ) (written : List WrittenItem) (items : List TypedItem) → AllZip (λ x t. item_of fields grouped groups x ≡ Ok t) written items → AllFit fields grouped groups (are_plain written) items
items_fit fields grouped groups [] [] zip = record { typed = tt; gives = refl; allowed = λ g. tt; same = λ p. refl }
items_fit fields grouped groups [] (t ∷ items) zip = absurd zip
items_fit fields grouped groups (x ∷ written) [] zip = absurd zip
items_fit fields grouped groups (x ∷ written) (t ∷ items) zip =
    one_more fields grouped groups (is_plain x.shown) (are_plain written) t items (item_fits fields grouped groups x.shown t zip.0) (items_fit fields grouped groups written items zip.1)

-- all columns from an index on
all_fit : (whole : List Field) (column : ℕ) (fields : List Field) → ((k : ℕ) → slice_get (kinds_of whole) (column + k) ≡ slice_get (kinds_of fields) k) → (groups : List ℕ) → AllFit whole false groups true (all_items column fields)
unfolding all_items
all_fit whole column [] at groups = record { typed = tt; gives = refl; allowed = λ g. absurd cc; same = λ p. refl }
all_fit whole column (field ∷ fields) at groups =
    let here_is : slice_get (kinds_of whole) column ≡ Some field.kind = ap (slice_get (kinds_of whole)) (plus_zero column) ∙ at 0 in
    let type_is : expr_type (kinds_of whole) (e.Column column) ≡ Some field.kind = column_type (kinds_of whole) column ∙ here_is in
    one_more whole false groups true true (record { item = i.Value (e.Column column); kind = field.kind }) (all_items (suc column) fields)
    (record { typed = (field.kind, type_is); gives = type_is; allowed = λ g. absurd cc; same = λ p. refl })
    (all_fit whole (suc column) fields (λ k. ap (slice_get (kinds_of whole)) (plus_suc column k) ∙ at (suc k)) groups)
  where
    plus_zero : (n : ℕ) → n ≡ n + 0
    plus_zero n = omega arith

    plus_suc : (n k : ℕ) → suc n + k ≡ n + suc k
    plus_suc n k = omega arith

plain_all : (xs : List WrittenItem) → list_any is_written_aggregate xs ≡ false → are_plain xs ≡ true
plain_all [] h = refl
plain_all (x ∷ xs) h = elim x.shown as (λ s. (elim s [ shown.Aggregate written ↦ true | shown.Expression written ↦ false ] || list_any is_written_aggregate xs) ≡ false → (is_plain s && are_plain xs) ≡ true) [
  | shown.Aggregate written ↦ λ h. absurd cc
  | shown.Expression written ↦ λ h. plain_all xs h
] h

abbrev is_plain_selection : Selection → Bool
is_plain_selection selection.All = true
is_plain_selection (selection.List items) = are_plain items

selection_fits : (fields : List Field) (grouped : Bool) (groups : List ℕ) (chosen : Selection) (items : List TypedItem) → items_of fields grouped groups chosen ≡ Ok items → AllFit fields grouped groups (is_plain_selection chosen) items
unfolding items_of
selection_fits fields true groups selection.All items h = absurd cc
selection_fits fields false groups selection.All items h =
    subst (AllFit fields false groups true) (ok_is (all_items 0 fields) items h) (all_fit fields 0 fields (λ k. ap (slice_get (kinds_of fields)) (zero_plus k)) groups)
  where
    zero_plus : (k : ℕ) → 0 + k ≡ k
    zero_plus k = omega arith
selection_fits fields grouped groups (selection.List written) items h = items_fit fields grouped groups written items (each_ok (item_of fields grouped groups) written items h)

-- ---- groups

groups_fit : (fields : List Field) (written : List QualifiedName) (groups : List ℕ) → AllZip (λ x g. group_of fields x ≡ Ok g) written groups → AllByRecursion (HasColumn (kinds_of fields)) groups
groups_fit fields [] [] zip = tt
groups_fit fields [] (g ∷ groups) zip = absurd zip
groups_fit fields (x ∷ written) [] zip = absurd zip
groups_fit fields (x ∷ written) (g ∷ groups) zip =
    let b = passes (column_of fields x) (λ found. Ok found.column) g zip.0 in
    let f = b.0 in
    (subst (HasColumn (kinds_of fields)) (ok_is f.column g b.2) (f.kind, column_found fields x f b.1), groups_fit fields written groups zip.1)

no_groups : (written : List QualifiedName) (groups : List ℕ) (check : QualifiedName → Outcome ℕ) → not (is_empty written) ≡ false → AllZip (λ x g. check x ≡ Ok g) written groups → groups ≡ []
no_groups [] [] check h zip = refl
no_groups [] (g ∷ groups) check h zip = absurd zip
no_groups (x ∷ written) groups check h zip = absurd cc

neither : (a b : Bool) → (a || b) ≡ false → (a ≡ false) × (b ≡ false)
neither true b h = absurd cc
neither false b h = (refl, h)

plain_selection : (chosen : Selection) → has_aggregate chosen ≡ false → is_plain_selection chosen ≡ true
plain_selection selection.All h = refl
plain_selection (selection.List items) h = plain_all items h

-- a shape has groups or aggregates only where its block has
same_grouped : (block : SelectBlock) (b : Bool) (groups : List ℕ) (items : List Item) → is_written_grouped block ≡ b → (not (is_empty block.groups) ≡ false → groups ≡ []) → (is_plain_selection block.selection ≡ true → list_any is_aggregate items ≡ false) → (not (is_empty groups) || list_any is_aggregate items) ≡ true → b ≡ true
unfolding is_written_grouped
same_grouped block true groups items is none plain h = refl
same_grouped block false groups items is none plain h =
    let n = neither (not (is_empty block.groups)) (has_aggregate block.selection) is in
    let without : groups ≡ [] = none n.0 in
    let flat : list_any is_aggregate items ≡ false = plain (plain_selection block.selection n.1) in
    let no : true ≡ false = sym h ∙ ap (λ g. not (is_empty g) || list_any is_aggregate items) without ∙ flat in
    absurd cc

-- ---- blocks

columns_of_row : (sources : List BlockInput) → kinds_of (joined_row sources) ≡ all_columns (ports_of sources)
unfolding joined_row
columns_of_row [] = refl
columns_of_row (s ∷ sources) = map-append (λ field. field.kind) s.fields (joined_row sources) ∙ ap (λ l. kinds_of s.fields ++ l) (columns_of_row sources)

-- a block that passed: its nodes fit each other, and its last gives the kinds
record IsWell (c : Checked) : Type 0 where
  block : IsBlock c.branch
  gives : result_columns (last_node c.branch) ≡ c.kinds

-- DISTINCT takes what the shape gives, and gives it again
distinct_fits : (distinct : Bool) (shape : Node) (kinds : List ColumnType) → result_columns shape ≡ kinds
    → IfSome (distinct_of distinct kinds) (λ d. (kind_of_node d ≡ Distinct) × Feeds shape d) × (result_columns (last_of shape (distinct_of distinct kinds)) ≡ kinds)
distinct_fits true shape kinds is = ((refl, ap (λ l. l ∷ []) (sym is)), refl)
distinct_fits false shape kinds is = (tt, is)

body_well : (sources : List BlockInput) (block : SelectBlock) (c : Checked) → body_of sources block ≡ Ok c → IsWell c
unfolding body_of
body_well sources block c h =
    let fields = joined_row sources in
    let grouped = is_written_grouped block in
    let w = passes (where_of fields block.condition) (λ condition. each (group_of fields) block.groups >>= (λ groups. items_of fields grouped groups block.selection >>= (λ items. Ok (checked_of block.distinct (inputs_of sources) (join_of sources condition) fields groups items)))) c h in
    let g = passes (each (group_of fields) block.groups) (λ groups. items_of fields grouped groups block.selection >>= (λ items. Ok (checked_of block.distinct (inputs_of sources) (join_of sources w.0) fields groups items))) c w.2 in
    let groups = g.0 in
    let n = passes (items_of fields grouped groups block.selection) (λ items. Ok (checked_of block.distinct (inputs_of sources) (join_of sources w.0) fields groups items)) c g.2 in
    let zip = each_ok (group_of fields) block.groups groups g.1 in
    let fit = selection_fits fields grouped groups block.selection n.0 n.1 in
    let shown = distinct_fits block.distinct (shape_of fields groups n.0) (kinds_in n.0) fit.gives in
    let made : Checked = checked_of block.distinct (inputs_of sources) (join_of sources w.0) fields groups n.0 in
    subst IsWell {x = made} (ok_is made c n.2) (record {
      block = record {
        join = refl {a = Join};
        shape = refl {a = Shape};
        condition = subst (λ columns. is_typed_condition columns w.0 ≡ true) (columns_of_row sources) (where_typed fields block.condition w.0 w.1);
        items = record {
          items = fit.typed;
          groups = all_once (HasColumn (kinds_of fields)) [] groups tt (groups_fit fields block.groups groups zip);
          grouped = λ h. all_grouped_once groups (shown_in n.0) (fit.allowed (same_grouped block grouped (once groups) (shown_in n.0) refl (λ none. ap once (no_groups block.groups groups (group_of fields) none zip)) fit.same h));
        };
        joined = ap (λ l. l ∷ []) (columns_of_row sources);
        distinct = shown.0;
      };
      gives = shown.1;
    })

block_well : (readable : SchemaLookup) (block : SelectBlock) (c : Checked) → block_of readable block ≡ Ok c → IsWell c
unfolding block_of
block_well readable block c h =
    let s = passes (each (source_of readable) block.inputs) (λ sources. unless (are_apart sources) _ >> body_of sources block) c h in
    body_well s.0 block c (passed (are_apart s.0) _ (body_of s.0 block) c s.2).1

-- ---- queries

same_type : (a b : ColumnType) → same_kind a b ≡ true → a ≡ b
same_type Number Number h = refl
same_type Number Text h = absurd cc
same_type Text Number h = absurd cc
same_type Text Text h = refl

abbrev agree : List ColumnType → List ColumnType → Bool
agree left right = list_all (λ p. same_kind p.0 p.1) (zip left right)

type_by_type : (left right : List ColumnType) → length left ≡ length right → agree left right ≡ true → left ≡ right
type_by_type [] [] long h = refl
type_by_type [] (r ∷ right) long h = absurd cc
type_by_type (l ∷ left) [] long h = absurd cc
type_by_type (l ∷ left) (r ∷ right) long h =
    let b = and_parts (same_kind l r) (agree left right) h in
    let rest : left ≡ right = type_by_type left right (let is : suc (length left) ≡ suc (length right) = long in omega arith) b.1 in
    ap (λ x. x ∷ left) (same_type l r b.0) ∙ ap (λ l. r ∷ l) rest

same_types : (left right : List ColumnType) → same_kinds left right ≡ true → left ≡ right
same_types left right h =
    let b = and_parts (length left == length right) (agree left right) h in
    let equal : (length left == length right) ≡ true = b.0 in
    type_by_type left right (grind (arith, nat_tests)) b.1

-- the blocks of a plan, and what joins them
abbrev HasForm : Planned → Type 0
HasForm plan = IsBlock plan.first × IfSome plan.combined (IsCombined plan.first)

second_formed : (readable : SchemaLookup) (output : OutputKind) (first : Checked) (written : Option Second) (plan : Planned) → IsWell first → with_second readable output first written ≡ Ok plan → HasForm plan
unfolding with_second
second_formed readable output first None plan well h = subst HasForm (ok_is (alone output first) plan h) (well.block, tt)
second_formed readable output first (Some written) plan well h =
    let b = passes (block_of readable written.block) (λ second. unless (same_kinds first.kinds second.kinds) _ >> Ok (combined output written.operator first second)) plan h in
    let second = b.0 in
    let later = block_well readable written.block second b.1 in
    let done = passed (same_kinds first.kinds second.kinds) _ (Ok (combined output written.operator first second)) plan b.2 in
    let same : first.kinds ≡ result_columns (last_node second.branch) = same_types first.kinds second.kinds done.0 ∙ sym later.gives in
    subst HasForm (ok_is (combined output written.operator first second) plan done.1) (
      well.block,
      record {
        block = later.block;
        kind = refl;
        columns = ap (λ l. l ∷ first.kinds ∷ []) (sym well.gives) ∙ ap (λ l. result_columns (last_node first.branch) ∷ l ∷ []) same;
      },
    )

pub form_law : IsFormLaw
unfolding typing
form_law readable query plan h =
    let b = passes (block_of readable query.first) (λ first. with_second readable (output_of query.output) first query.second) plan h in
    second_formed readable (output_of query.output) b.0 query.second plan (block_well readable query.first b.0 b.1) b.2
