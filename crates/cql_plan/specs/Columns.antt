-- The columns of the joined row, and what a written column means.
use Rattle.std.specs.Prelude.{ℕ, suc, Bool, true, ◌&&◌, if◌then◌else◌, List, [], ◌∷◌, map, Option, Some, None, Ok, Err}
use Rattle.std.specs.Str.{bytes_eq}
use Rattle.cql_value.specs.declared.schema.Column.{Column}
use Rattle.cql_value.specs.declared.schema.ColumnType.{ColumnType}
use Rattle.cql_syntax.specs.declared.syntax.QualifiedName.{QualifiedName}
use Rattle.cql_plan.specs.declared.error.PlanFault.TheVariants.{UnknownColumn, AmbiguousColumn}
use Rattle.cql_plan.specs.declared.row.Field.{Field}
use Rattle.cql_plan.specs.declared.row.FoundColumn.{FoundColumn}
use Rattle.cql_plan.specs.Outcome.{Outcome}

-- a column of an input of this alias
abbrev pub field_of : List ℕ → Column → Field
field_of alias column = record { alias = alias; name = column.name; kind = column.kind }

abbrev pub fields_of : List ℕ → List Column → List Field
fields_of alias = map (field_of alias)

abbrev pub kinds_of : List Field → List ColumnType
kinds_of = map (λ field. field.kind)

-- the alias before the dot, where one is written, is the input's
abbrev pub is_of : Option (List ℕ) → List ℕ → Bool
is_of None alias = true
is_of (Some qualifier) alias = bytes_eq qualifier alias

-- a written column may mean this one
abbrev pub may_mean : Option (List ℕ) → List ℕ → Field → Bool
may_mean qualifier name field = bytes_eq name field.name && is_of qualifier field.alias

-- the columns that a written one may mean, of those from this index on
unfoldable pub meant : Option (List ℕ) → List ℕ → ℕ → List Field → List FoundColumn
meant qualifier name column [] = []
meant qualifier name column (field ∷ fields) =
    if may_mean qualifier name field
    then record { column = column; kind = field.kind } ∷ meant qualifier name (suc column) fields
    else meant qualifier name (suc column) fields

-- none: unknown; more than one: ambiguous
abbrev pub the_one : List FoundColumn → Outcome FoundColumn
the_one [] = Err UnknownColumn
the_one (found ∷ []) = Ok found
the_one (found ∷ another ∷ more) = Err AmbiguousColumn

-- the column that a written one means
unfoldable pub column_named : Option (List ℕ) → List ℕ → List Field → Outcome FoundColumn
column_named qualifier name fields = the_one (meant qualifier name 0 fields)

abbrev pub column_of : List Field → QualifiedName → Outcome FoundColumn
column_of fields written = column_named written.qualifier written.name fields
