-- The inputs of a plan beside the ports of its joins.
use Rattle.std.proofs.Common.{◌≡◌, ℕ, zero, suc, ◌<◌, List, [], ◌∷◌, ◌++◌, length, refl, sym, ap, ◌∙◌, subst}
use Rattle.std.specs.Prelude.{Option, Some, None, Ok, slice_get}
use Rattle.std.specs.List.{AllByRecursion, AllZip, Contains, cons_option}
use Rattle.std.proofs.lemmas.List.{append-nil, length-map}
use Rattle.std.proofs.lemmas.Option.{slice_get_within}
use Rattle.cql_value.specs.declared.schema.Column.{Column}
use Rattle.cql_value.specs.declared.schema.ColumnType.{ColumnType}
use Rattle.cql_value.specs.Schema.{types_of}
use Rattle.cql_syntax.specs.declared.syntax.WrittenWindow.{WrittenWindow}
use Rattle.cql_syntax.specs.declared.syntax.WrittenWindow.TheVariants as written
use Rattle.cql_syntax.specs.declared.syntax.Input.{Input as WrittenInput}
use Rattle.cql_syntax.specs.declared.syntax.SelectBlock.{SelectBlock}
use Rattle.cql_syntax.specs.declared.syntax.Second.{Second}
use Rattle.cql_syntax.specs.declared.syntax.Query.{Query}
use Rattle.cql_window.specs.declared.window.Window.{Window}
use Rattle.cql_window.specs.declared.window.Window.TheVariants.{Range, Rows, All as all, Parts}
use Rattle.cql_window.specs.Projection.{projected}
use Rattle.cql_window.specs.Through.{wide_window, PartsWithin}
use Rattle.cql_window.specs.Once.{once}
use Rattle.cql_plan.specs.declared.plan.Input.{Input}
use Rattle.cql_plan.specs.declared.plan.OutputKind.{OutputKind}
use Rattle.cql_plan.specs.declared.plan.Planned.{Planned}
use Rattle.cql_plan.specs.declared.row.Field.{Field}
use Rattle.cql_plan.specs.declared.source.BlockInput.{BlockInput}
use Rattle.cql_plan.specs.declared.block.Checked.{Checked}
use Rattle.cql_plan.specs.Outcome.{◌>>◌, unless, each}
use Rattle.cql_plan.specs.VisibleColumns.{VisibleColumns}
use Rattle.cql_plan.specs.Columns.{kinds_of, fields_of, column_named}
use Rattle.cql_plan.specs.Sources.{SchemaLookup, alias_of, part_column, window_of, input_of, source_with, source_of, are_apart, joined_row, ports_of, inputs_of}
use Rattle.cql_plan.specs.Typing.{same_kinds, where_of, group_of, items_of, is_grouped, join_of, checked_of, body_of, block_of, output_of, alone, combined, with_second, typing}
use Rattle.cql_plan.specs.Ports.{ports_in, ports, PartsAmong, HavePorts}
use Rattle.cql_plan.specs.PortsRead.{IsReadAs, AreReadAs, IsPortsLaw}
use Rattle.cql_plan.proofs.Each.{passes}
use Rattle.cql_plan.proofs.FitExpressions.{here, there, passed, ok_is, each_ok, column_found}
use Rattle.cql_plan.proofs.Once.{all_once}

-- ---- one input

-- the input is a stream of which columns of these types are seen, through its projection, and its window parts by columns of that
record Stands (readable : SchemaLookup) (input : Input) (types : List ColumnType) : Type 0 where
  read : IsReadAs (readable input.owner input.stream) input.projection types
  parts : PartsAmong input.projection input.window

kinds_are_types : (alias : List ℕ) (columns : List Column) → kinds_of (fields_of alias columns) ≡ types_of columns
kinds_are_types alias [] = refl
kinds_are_types alias (c ∷ columns) = ap (λ l. c.kind ∷ l) (kinds_are_types alias columns)

abbrev Below : List Field → ℕ → Type 0
Below fields i = i < length (kinds_of fields)

column_below : (fields : List Field) (name : List ℕ) (column : ℕ) → part_column fields name ≡ Ok column → Below fields column
column_below fields name column h =
    let b = passes (column_named None name fields) (λ found. Ok found.column) column h in
    let f = b.0 in
    subst (Below fields) (ok_is f.column column b.2)
    (slice_get_within (kinds_of fields) f.column f.kind (column_found fields (record { qualifier = None; name = name }) f b.1))

columns_below : (fields : List Field) (names : List (List ℕ)) (columns : List ℕ) → AllZip (λ name column. part_column fields name ≡ Ok column) names columns → AllByRecursion (Below fields) columns
columns_below fields [] [] zip = tt
columns_below fields [] (p ∷ columns) zip = absurd zip
columns_below fields (n ∷ names) [] zip = absurd zip
columns_below fields (n ∷ names) (p ∷ columns) zip = (column_below fields n p zip.0, columns_below fields names columns zip.1)

abbrev Within : List Field → Window → Type 0
Within fields window = PartsWithin window (length (kinds_of fields))

fields_within : (fields : List Field) (window : WrittenWindow) (w : Window) → window_of fields window ≡ Ok w → Within fields w
unfolding window_of
fields_within fields (written.Range len slide) w h = subst (Within fields) (ok_is (Range len slide) w h) tt
fields_within fields (written.Rows count slide) w h = subst (Within fields) (ok_is (Rows count slide) w h) tt
fields_within fields written.Unbounded w h = subst (Within fields) (ok_is all w h) tt
fields_within fields (written.Partition names count) w h =
    let b = passes (each (part_column fields) names) (λ columns. Ok (Parts (once columns) count)) w h in
    subst (Within fields) (ok_is (Parts (once b.0) count) w b.2) (all_once (Below fields) [] b.0 tt (columns_below fields names b.0 (each_ok (part_column fields) names b.0 b.1)))

-- a window parts by columns of its stream
pub parts_within : (alias : List ℕ) (columns : List Column) (window : WrittenWindow) (w : Window) → window_of (fields_of alias columns) window ≡ Ok w → PartsWithin w (length columns)
parts_within alias columns window w h =
    let many : length (kinds_of (fields_of alias columns)) ≡ length columns = length-map (fields_of alias columns) _ ∙ length-map columns _ in
    subst (PartsWithin w) many (fields_within (fields_of alias columns) window w h)

-- what stands at an index is one of the list
got : (xs : List ℕ) (i x : ℕ) → slice_get xs i ≡ Some x → Contains xs x
got [] i x h = absurd cc
got (y ∷ xs) zero x h = let same : y ≡ x = cc in subst (Contains (y ∷ xs)) same (here y xs)
got (y ∷ xs) (suc i) x h = there y x xs (got xs i x h)

all_got : (projection columns : List ℕ) → AllByRecursion (Contains projection) (projected projection columns)
all_got projection [] = tt
all_got projection (c ∷ columns) = by (all_got projection columns) (slice_get projection c) refl
  where
    by : AllByRecursion (Contains projection) (projected projection columns) → (o : Option ℕ) → slice_get projection c ≡ o → AllByRecursion (Contains projection) (cons_option o (projected projection columns))
    by rest None is = rest
    by rest (Some p) is = (got projection c p is, rest)

parts_among : (projection : List ℕ) (w : Window) → PartsAmong projection (wide_window projection w)
parts_among projection (Range len slide) = tt
parts_among projection (Rows count slide) = tt
parts_among projection all = tt
parts_among projection (Parts columns count) = all_got projection columns

abbrev StandsSource : SchemaLookup → BlockInput → Type 0
StandsSource readable source = Stands readable source.input (kinds_of source.fields)

source_go : (readable : SchemaLookup) (input : WrittenInput) (source : BlockInput) (o : Option VisibleColumns) → readable input.stream.qualifier input.stream.name ≡ o → source_with input o ≡ Ok source → StandsSource readable source
source_go readable input source None same h = absurd cc
source_go readable input source (Some seen) same h =
    let fields = fields_of (alias_of input) seen.schema in
    let b = passes (window_of fields input.window) _ source h in
    subst (StandsSource readable) (ok_is (record { input = input_of input seen.projection b.0; alias = alias_of input; fields = fields }) source b.2) (record {
      read = subst (λ r. IsReadAs r seen.projection (kinds_of fields)) (sym same) (kinds_are_types (alias_of input) seen.schema, refl);
      parts = parts_among seen.projection b.0;
    })

source_stands : (readable : SchemaLookup) (input : WrittenInput) (source : BlockInput) → source_of readable input ≡ Ok source → StandsSource readable source
unfolding source_of
source_stands readable input source h = source_go readable input source (readable input.stream.qualifier input.stream.name) refl h

-- ---- inputs beside ports

-- each input stands beside a port
abbrev Beside : SchemaLookup → List Input → List (List ColumnType) → Type 0
Beside readable [] [] = Unit {0}
Beside readable [] (c ∷ cs) = ⊥
Beside readable (i ∷ is) [] = ⊥
Beside readable (i ∷ is) (c ∷ cs) = Stands readable i c × Beside readable is cs

sources_beside : (readable : SchemaLookup) (inputs : List WrittenInput) (sources : List BlockInput) → AllZip (λ input source. source_of readable input ≡ Ok source) inputs sources → Beside readable (inputs_of sources) (ports_of sources)
sources_beside readable [] [] zip = tt
sources_beside readable [] (s ∷ sources) zip = absurd zip
sources_beside readable (i ∷ inputs) [] zip = absurd zip
sources_beside readable (i ∷ inputs) (s ∷ sources) zip = (source_stands readable i s zip.0, sources_beside readable inputs sources zip.1)

both_beside : (readable : SchemaLookup) (is js : List Input) (cs ds : List (List ColumnType)) → Beside readable is cs → Beside readable js ds → Beside readable (is ++ js) (cs ++ ds)
both_beside readable [] js [] ds front back = back
both_beside readable [] js (c ∷ cs) ds front back = absurd front
both_beside readable (i ∷ is) js [] ds front back = absurd front
both_beside readable (i ∷ is) js (c ∷ cs) ds front back = (front.0, both_beside readable is js cs ds front.1 back)

are_read_as : (readable : SchemaLookup) (is : List Input) (cs : List (List ColumnType)) → Beside readable is cs → AreReadAs readable is cs
are_read_as readable [] [] beside = tt
are_read_as readable [] (c ∷ cs) beside = absurd beside
are_read_as readable (i ∷ is) [] beside = absurd beside
are_read_as readable (i ∷ is) (c ∷ cs) beside = (beside.0.read, are_read_as readable is cs beside.1)

have_ports : (readable : SchemaLookup) (is : List Input) (cs : List (List ColumnType)) → Beside readable is cs → HavePorts is cs
have_ports readable [] [] beside = tt
have_ports readable [] (c ∷ cs) beside = absurd beside
have_ports readable (i ∷ is) [] beside = absurd beside
have_ports readable (i ∷ is) (c ∷ cs) beside = (beside.0.parts, have_ports readable is cs beside.1)

-- ---- blocks

abbrev IsBeside : SchemaLookup → Checked → Type 0
IsBeside readable c = Beside readable c.inputs (ports_in c.branch.join)

body_beside : (readable : SchemaLookup) (sources : List BlockInput) (block : SelectBlock) (c : Checked) → Beside readable (inputs_of sources) (ports_of sources) → body_of sources block ≡ Ok c → IsBeside readable c
unfolding body_of
body_beside readable sources block c beside h =
    let fields = joined_row sources in
    let w = passes (where_of fields block.condition) _ c h in
    let g = passes (each (group_of fields) block.groups) _ c w.2 in
    let n = passes (items_of fields (is_grouped block) g.0 block.selection) _ c g.2 in
    let made : Checked = checked_of block.distinct (inputs_of sources) (join_of sources w.0) fields g.0 n.0 in
    subst (IsBeside readable) {x = made} (ok_is made c n.2) beside

block_beside : (readable : SchemaLookup) (block : SelectBlock) (c : Checked) → block_of readable block ≡ Ok c → IsBeside readable c
unfolding block_of
block_beside readable block c h =
    let s = passes (each (source_of readable) block.inputs) (λ sources. unless (are_apart sources) _ >> body_of sources block) c h in
    body_beside readable s.0 block c (sources_beside readable block.inputs s.0 (each_ok (source_of readable) block.inputs s.0 s.1))
    (passed (are_apart s.0) _ (body_of s.0 block) c s.2).1

-- ---- queries

abbrev IsPlanBeside : SchemaLookup → Planned → Type 0
IsPlanBeside readable plan = Beside readable plan.inputs (ports plan)

second_beside : (readable : SchemaLookup) (output : OutputKind) (first : Checked) (written : Option Second) (plan : Planned) → IsBeside readable first → with_second readable output first written ≡ Ok plan → IsPlanBeside readable plan
unfolding with_second
second_beside readable output first None plan beside h =
    subst (IsPlanBeside readable) (ok_is (alone output first) plan h) (subst (Beside readable first.inputs) (sym (append-nil (ports_in first.branch.join))) beside)
second_beside readable output first (Some written) plan beside h =
    let b = passes (block_of readable written.block) (λ second. unless (same_kinds first.kinds second.kinds) _ >> Ok (combined output written.operator first second)) plan h in
    let second = b.0 in
    let done = passed (same_kinds first.kinds second.kinds) _ (Ok (combined output written.operator first second)) plan b.2 in
    subst (IsPlanBeside readable) (ok_is (combined output written.operator first second) plan done.1)
    (both_beside readable first.inputs second.inputs (ports_in first.branch.join) (ports_in second.branch.join) beside (block_beside readable written.block second b.1))

plan_beside : (readable : SchemaLookup) (query : Query) (plan : Planned) → typing readable query ≡ Ok plan → IsPlanBeside readable plan
unfolding typing
plan_beside readable query plan h =
    let b = passes (block_of readable query.first) (λ first. with_second readable (output_of query.output) first query.second) plan h in
    second_beside readable (output_of query.output) b.0 query.second plan (block_beside readable query.first b.0 b.1) b.2

-- each input of a plan has a port
pub planned_ports : (readable : SchemaLookup) (query : Query) (plan : Planned) → typing readable query ≡ Ok plan → HavePorts plan.inputs (ports plan)
planned_ports readable query plan h = have_ports readable plan.inputs (ports plan) (plan_beside readable query plan h)

pub ports_law : IsPortsLaw
ports_law readable query plan h = are_read_as readable plan.inputs (ports plan) (plan_beside readable query plan h)
