-- What the typing comes to, in words of its own: what a written column means, that of several checks the first fault is told, and that a plan's nodes fit each other.
use Rattle.std.specs.Prelude.{◌≡◌, ◌≢◌, ◌<◌, ℕ, Bool, true, List, length, slice_get, Option, Some, Ok, Err, IfSome, ◌⊎◌}
use Rattle.cql_value.specs.Schema.{are_distinct}
use Rattle.cql_syntax.specs.declared.syntax.Input.{Input}
use Rattle.cql_syntax.specs.declared.syntax.Item.{Item}
use Rattle.cql_syntax.specs.declared.syntax.QualifiedName.{QualifiedName}
use Rattle.cql_syntax.specs.declared.syntax.Query.{Query}
use Rattle.cql_plan.specs.declared.plan.Planned.{Planned}
use Rattle.cql_plan.specs.Plan.{IsBlock, IsCombined}
use Rattle.cql_plan.specs.declared.error.PlanFault.TheVariants.{UnknownColumn, AmbiguousColumn}
use Rattle.cql_plan.specs.declared.row.Field.{Field}
use Rattle.cql_plan.specs.declared.row.FoundColumn.{FoundColumn}
use Rattle.cql_plan.specs.declared.source.BlockInput.{BlockInput}
use Rattle.cql_plan.specs.Outcome.{Outcome, each}
use Rattle.cql_plan.specs.VisibleColumns.{VisibleColumns}
use Rattle.cql_plan.specs.Columns.{may_mean, column_named}
use Rattle.cql_plan.specs.Sources.{SchemaLookup, source_of, are_apart, joined_row}
use Rattle.cql_plan.specs.Typing.{group_of, item_of, typing}

-- ---- columns

-- a column that the written one may mean stands at this index
abbrev pub MayMeanAt : Option (List ℕ) → List ℕ → List Field → ℕ → Type 0
MayMeanAt qualifier name fields column = (field : Field) × (slice_get fields column ≡ Some field) × (may_mean qualifier name field ≡ true)

-- a column that the written one may mean stands at the index that was found, and holds this
abbrev pub IsAt : Option (List ℕ) → List ℕ → List Field → FoundColumn → Type 0
IsAt qualifier name fields found =
    (field : Field) × (slice_get fields found.column ≡ Some field) × (may_mean qualifier name field ≡ true) × (found.kind ≡ field.kind)

-- Found: no other column may be meant. Unknown: none may be meant. Ambiguous: two may be meant.
abbrev pub IsMeaning : Option (List ℕ) → List ℕ → List Field → Outcome FoundColumn → Type 0
IsMeaning qualifier name fields (Ok found) =
    IsAt qualifier name fields found × ((other : ℕ) → MayMeanAt qualifier name fields other → other ≡ found.column)
IsMeaning qualifier name fields (Err error) =
    ((error ≡ UnknownColumn) × ((column : ℕ) → MayMeanAt qualifier name fields column → ⊥))
    ⊎ ((error ≡ AmbiguousColumn) × ((one : ℕ) × (other : ℕ) × (one < other) × MayMeanAt qualifier name fields one × MayMeanAt qualifier name fields other))

abbrev pub IsColumnLaw : Type 0
IsColumnLaw = (qualifier : Option (List ℕ)) (name : List ℕ) (fields : List Field) → IsMeaning qualifier name fields (column_named qualifier name fields)

-- The columns that are seen of each stream are distinct, as those of a schema are.
abbrev pub AreSchemas : SchemaLookup → Type 0
AreSchemas readable = (owner : Option (List ℕ)) (stream : List ℕ) (seen : VisibleColumns) → readable owner stream ≡ Some seen → are_distinct seen.schema ≡ true

-- a column with an alias before the dot is never ambiguous
abbrev pub IsQualifiedLaw : Type 0
IsQualifiedLaw =
    (readable : SchemaLookup) (inputs : List Input) (sources : List BlockInput) (qualifier name : List ℕ)
    → AreSchemas readable → each (source_of readable) inputs ≡ Ok sources → are_apart sources ≡ true
    → column_named (Some qualifier) name (joined_row sources) ≢ Err AmbiguousColumn

-- ---- the first fault

-- All pass, and each gives what stands at its index; or one has the fault, and all before it pass.
abbrev pub IsFirst : {A B : Type 0} → (A → Outcome B) → List A → Outcome (List B) → Type 0
IsFirst {A} {B} check xs (Ok ys) =
    (length ys ≡ length xs) × ((i : ℕ) (x : A) → slice_get xs i ≡ Some x → (y : B) × (slice_get ys i ≡ Some y) × (check x ≡ Ok y))
IsFirst {A} {B} check xs (Err error) =
    (i : ℕ) × (x : A) × (slice_get xs i ≡ Some x) × (check x ≡ Err error)
    × ((j : ℕ) (before : A) → j < i → slice_get xs j ≡ Some before → (y : B) × (check before ≡ Ok y))

-- of the inputs, of the columns of GROUP BY and of the items
abbrev pub IsFirstFaultLaw : Type 0
IsFirstFaultLaw =
    ((readable : SchemaLookup) (inputs : List Input) → IsFirst (source_of readable) inputs (each (source_of readable) inputs))
    × ((fields : List Field) (columns : List QualifiedName) → IsFirst (group_of fields) columns (each (group_of fields) columns))
    × ((fields : List Field) (grouped : Bool) (groups : List ℕ) (items : List Item)
    → IsFirst (item_of fields grouped groups) items (each (item_of fields grouped groups) items))

-- ---- the form

-- what is typed is a block, or two of the same columns under a set operation
abbrev pub IsFormLaw : Type 0
IsFormLaw = (readable : SchemaLookup) (query : Query) (plan : Planned) → typing readable query ≡ Ok plan → IsBlock plan.first × IfSome plan.combined (IsCombined plan.first)
