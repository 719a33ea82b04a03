-- The inputs of a block.
use Rattle.std.specs.Prelude.{ℕ, ◌<◌, ◌^◌, Bool, true, ◌&&◌, not, List, [], ◌∷◌, ◌++◌, map, Option, Some, None, Ok, Err}
use Rattle.std.specs.List.{All, list_any}
use Rattle.std.specs.Str.{bytes_eq}
use Rattle.cql_value.specs.declared.schema.ColumnType.{ColumnType}
use Rattle.cql_syntax.specs.declared.syntax.WrittenWindow.{WrittenWindow}
use Rattle.cql_syntax.specs.declared.syntax.WrittenWindow.TheVariants as written
use Rattle.cql_syntax.specs.declared.syntax.Input.{Input as WrittenInput}
use Rattle.cql_plan.specs.declared.error.PlanFault.TheVariants.{UnknownStream}
use Rattle.cql_window.specs.declared.window.Window.{Window}
use Rattle.cql_window.specs.declared.window.Window.TheVariants.{Range, Rows, All as all, Parts}
use Rattle.cql_plan.specs.declared.plan.Input.{Input}
use Rattle.cql_plan.specs.declared.row.Field.{Field}
use Rattle.cql_plan.specs.declared.source.BlockInput.{BlockInput}
use Rattle.cql_plan.specs.declared.source.Joined.{Joined}
use Rattle.cql_window.specs.Through.{wide_window}
use Rattle.cql_window.specs.Once.{once}
use Rattle.cql_plan.specs.Outcome.{Outcome, ◌>>=◌, each}
use Rattle.cql_plan.specs.VisibleColumns.{VisibleColumns}
use Rattle.cql_plan.specs.Columns.{fields_of, kinds_of, column_named}

-- What is seen of a stream of an owner, or with no owner of the caller's own, where the caller may read it.
abbrev pub SchemaLookup : Type 0
SchemaLookup = Option (List ℕ) → List ℕ → Option VisibleColumns

abbrev pub name_or : Option (List ℕ) → List ℕ → List ℕ
name_or None other = other
name_or (Some name) other = name

-- an input's alias: the written one, else the stream's name without its owner
abbrev pub alias_of : WrittenInput → List ℕ
alias_of input = name_or input.alias input.stream.name

-- a column by which an input is parted: an index among those that are seen
abbrev pub part_column : List Field → List ℕ → Outcome ℕ
part_column fields name = column_named None name fields >>= (λ found. Ok found.column)

-- the numbers of a written window are those that a window may have
abbrev pub HasBounds : WrittenWindow → Type 0
HasBounds (written.Range length slide) = (length < 2 ^ 62) × (0 < slide) × (slide < 2 ^ 62)
HasBounds (written.Rows count slide) = (0 < count) × (count < 2 ^ 62) × (0 < slide) × (slide < 2 ^ 62)
HasBounds written.Unbounded = Unit {0}
HasBounds (written.Partition names count) = (0 < count) × (count < 2 ^ 62)

abbrev pub AreBounded : List WrittenInput → Type 0
AreBounded inputs = All (λ input. HasBounds input.window) inputs

-- the window over the columns that are seen; one by which it is parted stands once, however often it is named
unfoldable pub window_of : List Field → WrittenWindow → Outcome Window
window_of fields (written.Range length slide) = Ok (Range length slide)
window_of fields (written.Rows count slide) = Ok (Rows count slide)
window_of fields written.Unbounded = Ok all
window_of fields (written.Partition names count) = each (part_column fields) names >>= (λ columns. Ok (Parts (once columns) count))

-- what the plan keeps of an input: the window over the whole rows, and where the columns stand in these
abbrev pub input_of : WrittenInput → List ℕ → Window → Input
input_of input projection window = record { owner = input.stream.qualifier; stream = input.stream.name; window = wide_window projection window; projection = projection }

-- an input of a stream of which this is seen, where it can be read
abbrev pub source_with : WrittenInput → Option VisibleColumns → Outcome BlockInput
source_with input None = Err UnknownStream
source_with input (Some seen) = do
  window ← window_of (fields_of (alias_of input) seen.schema) input.window
  Ok (record { input = input_of input seen.projection window; alias = alias_of input; fields = fields_of (alias_of input) seen.schema })

-- an input: its stream can be read, and has the columns by which it is parted
unfoldable pub source_of : SchemaLookup → WrittenInput → Outcome BlockInput
source_of readable input = source_with input (readable input.stream.qualifier input.stream.name)

-- no two inputs have one alias
unfoldable pub are_apart : List BlockInput → Bool
are_apart [] = true
are_apart (source ∷ later) = not (list_any (λ other. bytes_eq source.alias other.alias) later) && are_apart later

-- the columns of all inputs, in order
unfoldable pub joined_row : List BlockInput → List Field
joined_row [] = []
joined_row (source ∷ sources) = source.fields ++ joined_row sources

-- the types of each input's columns
abbrev pub ports_of : List BlockInput → List (List ColumnType)
ports_of = map (λ source. kinds_of source.fields)

-- what the plan keeps of each input
abbrev pub inputs_of : List BlockInput → List Input
inputs_of = map (λ source. source.input)

-- the inputs of a block, put together
abbrev pub joined_of : List BlockInput → Joined
joined_of sources = record { inputs = inputs_of sources; ports = ports_of sources; row = joined_row sources }
