-- Plans that show what one input's window holds.
use Rattle.std.proofs.Common.{◌≡◌, ℕ, suc, List, [], ◌∷◌, Bool, false, not, refl, sym, ap, ◌∙◌, subst}
use Rattle.std.specs.Prelude.{Option, Some, None, Ok}
use Rattle.std.proofs.lemmas.List.{append-nil}
use Rattle.cql_value.specs.declared.schema.ColumnType.{ColumnType}
use Rattle.cql_syntax.specs.declared.syntax.Condition.{Condition as WrittenCondition}
use Rattle.cql_syntax.specs.declared.syntax.Selection.{Selection}
use Rattle.cql_syntax.specs.declared.syntax.Selection.TheVariants as selection
use Rattle.cql_syntax.specs.declared.syntax.SelectBlock.{SelectBlock}
use Rattle.cql_syntax.specs.declared.syntax.Second.{Second}
use Rattle.cql_syntax.specs.declared.syntax.Query.{Query}
use Rattle.cql_window.specs.Once.{once}
use Rattle.cql_plan.specs.declared.condition.Condition.{Condition}
use Rattle.cql_plan.specs.declared.condition.Condition.TheVariants.{Always}
use Rattle.cql_plan.specs.declared.expr.Expr.TheVariants.{Column as column}
use Rattle.cql_plan.specs.declared.node.Item.TheVariants.{Value as value}
use Rattle.cql_plan.specs.declared.node.Node.TheVariants as node
use Rattle.cql_plan.specs.declared.plan.OutputKind.{OutputKind}
use Rattle.cql_plan.specs.declared.plan.Planned.{Planned}
use Rattle.cql_plan.specs.declared.row.Field.{Field}
use Rattle.cql_plan.specs.declared.source.BlockInput.{BlockInput}
use Rattle.cql_plan.specs.declared.item.TypedItem.{TypedItem}
use Rattle.cql_plan.specs.declared.block.Checked.{Checked}
use Rattle.cql_plan.specs.Outcome.{Outcome, ◌>>=◌, ◌>>◌, unless, each}
use Rattle.cql_plan.specs.Columns.{kinds_of}
use Rattle.cql_plan.specs.Sources.{SchemaLookup, source_of, are_apart, joined_row, ports_of, inputs_of}
use Rattle.cql_plan.specs.Typing.{where_of, group_of, all_items, items_of, is_grouped, shown_in, kinds_in, join_of, shape_of, distinct_of, checked_of, body_of, block_of, output_of, alone, with_second, typing}
use Rattle.cql_plan.specs.Ports.{columns_from, IsPlain}
use Rattle.cql_plan.specs.PortsRead.{IsPlainQuery, IsPlainLaw}
use Rattle.cql_plan.proofs.Each.{passes}
use Rattle.cql_plan.proofs.FitExpressions.{passed, ok_is}

-- ---- the parts of a block

none_checked : {A B : Type 0} (check : A → Outcome B) (xs : List A) (ys : List B) → xs ≡ [] → each check xs ≡ Ok ys → ys ≡ []
unfolding each
none_checked check [] ys none h = sym (ok_is [] ys h)
none_checked check (x ∷ xs) ys none h = absurd cc

one_checked : {A B : Type 0} (check : A → Outcome B) (xs : List A) (x : A) (ys : List B) → xs ≡ x ∷ [] → each check xs ≡ Ok ys → (y : B) × (ys ≡ y ∷ [])
unfolding each
one_checked {A} {B} check xs x ys one h =
    let a = passes (check x) (λ (y : B). each check [] >>= (λ ys. Ok (y ∷ ys))) ys (ap (each check) (sym one) ∙ h) in
    (a.0, sym (ok_is (a.0 ∷ []) ys a.2))

always : (fields : List Field) (written : Option WrittenCondition) (condition : Condition) → written ≡ None → where_of fields written ≡ Ok condition → condition ≡ Always
unfolding where_of
always fields None condition none h = sym (ok_is Always condition h)
always fields (Some written) condition none h = absurd cc

all_chosen : (fields : List Field) (grouped : Bool) (groups : List ℕ) (chosen : Selection) (items : List TypedItem) → chosen ≡ selection.All → items_of fields grouped groups chosen ≡ Ok items → items ≡ all_items 0 fields
unfolding items_of
all_chosen fields grouped groups selection.All items chosen h =
    sym (ok_is (all_items 0 fields) items (passed (not grouped) _ (Ok (all_items 0 fields)) items h).1)
all_chosen fields grouped groups (selection.List written) items chosen h = absurd cc

all_shown : (index : ℕ) (fields : List Field) → shown_in (all_items index fields) ≡ columns_from index (kinds_of fields)
unfolding all_items
all_shown index [] = refl
all_shown index (field ∷ fields) = ap (λ l. value (column index) ∷ l) (all_shown (suc index) fields)

one_row : (source : BlockInput) → joined_row (source ∷ []) ≡ source.fields
unfolding joined_row
one_row source = append-nil source.fields

-- ---- blocks

-- a block over one input that shows all columns of all its rows
record IsPlainBlock (c : Checked) : Type 0 where
  columns : List ColumnType
  join : c.branch.join ≡ node.Join (record { ports = columns ∷ []; condition = Always })
  shape : c.branch.shape ≡ node.Shape (record { columns = columns; items = columns_from 0 columns; groups = [] })
  distinct : c.branch.distinct ≡ None

joined : (ports : List (List ColumnType)) (columns : List ColumnType) (condition : Condition) → ports ≡ columns ∷ [] → condition ≡ Always
    → node.Join (record { ports = ports; condition = condition }) ≡ node.Join (record { ports = columns ∷ []; condition = Always })
joined ports columns condition p c = cc

shaped : (row fields : List Field) (groups : List ℕ) (items : List TypedItem) → row ≡ fields → groups ≡ [] → items ≡ all_items 0 row
    → shape_of row groups items ≡ node.Shape (record { columns = kinds_of fields; items = columns_from 0 (kinds_of fields); groups = [] })
shaped row fields groups items r g i =
    let shown : shown_in items ≡ columns_from 0 (kinds_of fields) = ap shown_in i ∙ all_shown 0 row ∙ ap (λ l. columns_from 0 (kinds_of l)) r in
    let kinds : kinds_of row ≡ kinds_of fields = ap kinds_of r in
    let none : once groups ≡ [] = ap once g in
    cc

body_plain : (sources : List BlockInput) (source : BlockInput) (block : SelectBlock) (c : Checked) → sources ≡ source ∷ []
    → block.selection ≡ selection.All → block.distinct ≡ false → block.condition ≡ None → block.groups ≡ [] → body_of sources block ≡ Ok c → IsPlainBlock c
unfolding body_of
body_plain sources source block c one chosen distinct condition groups h =
    let fields = joined_row sources in
    let w = passes (where_of fields block.condition) _ c h in
    let g = passes (each (group_of fields) block.groups) _ c w.2 in
    let n = passes (items_of fields (is_grouped block) g.0 block.selection) _ c g.2 in
    let row : joined_row sources ≡ source.fields = ap joined_row one ∙ one_row source in
    let made : Checked = checked_of block.distinct (inputs_of sources) (join_of sources w.0) fields g.0 n.0 in
    subst IsPlainBlock {x = made} (ok_is made c n.2) (record {
      columns = kinds_of source.fields;
      join = joined (ports_of sources) (kinds_of source.fields) w.0 (ap ports_of one) (always fields block.condition w.0 condition w.1);
      shape = shaped fields source.fields g.0 n.0 row (none_checked (group_of fields) block.groups g.0 groups g.1) (all_chosen fields (is_grouped block) g.0 block.selection n.0 chosen n.1);
      distinct = ap (λ d. distinct_of d (kinds_in n.0)) distinct;
    })

block_plain : (readable : SchemaLookup) (query : Query) (c : Checked) → IsPlainQuery query → block_of readable query.first ≡ Ok c → IsPlainBlock c
unfolding block_of
block_plain readable query c plain h =
    let block = query.first in
    let s = passes (each (source_of readable) block.inputs) (λ sources. unless (are_apart sources) _ >> body_of sources block) c h in
    let one = one_checked (source_of readable) block.inputs plain.input s.0 plain.inputs s.1 in
    body_plain s.0 one.0 block c one.1 plain.selection plain.distinct plain.condition plain.groups (passed (are_apart s.0) _ (body_of s.0 block) c s.2).1

-- ---- queries

plan_plain : (readable : SchemaLookup) (output : OutputKind) (first : Checked) (written : Option Second) (plan : Planned) → written ≡ None → IsPlainBlock first → with_second readable output first written ≡ Ok plan → IsPlain plan
unfolding with_second
plan_plain readable output first None plan none plain h =
    subst IsPlain (ok_is (alone output first) plan h) (record { columns = plain.columns; join = plain.join; shape = plain.shape; distinct = plain.distinct; combined = refl })
plan_plain readable output first (Some written) plan none plain h = absurd cc

pub plain_law : IsPlainLaw
unfolding typing
plain_law readable query plan plain h =
    let b = passes (block_of readable query.first) (λ first. with_second readable (output_of query.output) first query.second) plan h in
    plan_plain readable (output_of query.output) b.0 query.second plan plain.second (block_plain readable query b.0 plain b.1) b.2
