-- A caller who sees chosen columns of a stream is told the plan that one is told whose stream has these columns alone.
use Rattle.std.specs.Prelude.{◌≡◌, length, map, Option, Some, None, Ok, option_map}
use Rattle.cql_syntax.specs.declared.syntax.Query.{Query}
use Rattle.cql_window.specs.Projection.{whole_projection}
use Rattle.cql_window.specs.Through.{wide_window}
use Rattle.cql_plan.specs.declared.plan.Input.{Input}
use Rattle.cql_plan.specs.declared.plan.Planned.{Planned}
use Rattle.cql_plan.specs.Outcome.{Outcome, ◌>>=◌}
use Rattle.cql_plan.specs.VisibleColumns.{VisibleColumns}
use Rattle.cql_plan.specs.Sources.{SchemaLookup}
use Rattle.cql_plan.specs.Typing.{typing}

-- the columns that are seen, as all columns of a stream
abbrev pub alone : VisibleColumns → VisibleColumns
alone seen = record { schema = seen.schema; projection = whole_projection (length seen.schema) }

-- streams that have the columns that are seen alone
abbrev pub visible_alone : SchemaLookup → SchemaLookup
visible_alone readable owner stream = option_map alone (readable owner stream)

-- an input over columns that are seen, as one over the whole rows of which they are seen
abbrev pub widened_by : Option VisibleColumns → Input → Input
widened_by None input = input
widened_by (Some seen) input = record input { window = wide_window seen.projection input.window; projection = seen.projection }

abbrev pub widened : SchemaLookup → Input → Input
widened readable input = widened_by (readable input.owner input.stream) input

abbrev pub widened_plan : SchemaLookup → Planned → Planned
widened_plan readable plan = record plan { inputs = map (widened readable) plan.inputs }

abbrev pub or_widened : SchemaLookup → Outcome Planned → Outcome Planned
or_widened readable outcome = outcome >>= (λ plan. Ok (widened_plan readable plan))

-- The plan is that over the streams that have the seen columns alone, with its inputs over the whole rows; and so is the fault.
abbrev pub IsSeenLaw : Type 0
IsSeenLaw = (readable : SchemaLookup) (query : Query) → typing readable query ≡ or_widened readable (typing (visible_alone readable) query)
