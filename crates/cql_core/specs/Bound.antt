-- The streams that a tenant reads, and those of the inputs of a plan.
use Rattle.std.specs.Prelude.{List, Option, ℕ, length, option_map, None, Some, map}
use Rattle.cql_window.specs.Projection.{whole_projection}
use Rattle.cql_window.specs.declared.window.Window.{Window}
use Rattle.cql_plan.specs.VisibleColumns.{VisibleColumns}
use Rattle.cql_plan.specs.Sources.{SchemaLookup}
use Rattle.cql_plan.specs.declared.plan.Planned.{Planned}
use Rattle.cql_plan.specs.declared.plan.Input.{Input}
use Rattle.cql_tenants.specs.Readable.{StreamView}
use Rattle.cql_core.specs.StreamId.{StreamId, stream_id_of}

-- the streams that a tenant reads, by what stands before the dot and by the name
abbrev pub StreamLookup : Type 0
StreamLookup = Option (List ℕ) → List ℕ → Option StreamView

-- what is seen of a stream, as if it had no other columns
abbrev pub visible_alone_of : StreamView → VisibleColumns
visible_alone_of s = record { schema = s.schema; projection = whole_projection (length s.schema) }

-- the columns that a tenant sees, as all columns of streams
abbrev pub schemas : StreamLookup → SchemaLookup
schemas found owner name = option_map visible_alone_of (found owner name)

-- an input with its stream, the window over the stream's rows, and the projection through which these are seen
pub record BoundInput : Type 0 where
  pub stream_id : StreamId
  pub window : Window
  pub projection : List ℕ

-- a plan with the streams of its inputs, in the order of FROM
pub record BoundPlan : Type 0 where
  pub plan : Planned
  pub inputs : List BoundInput

abbrev pub owner_of : Option StreamView → ℕ
owner_of None = 0
owner_of (Some s) = s.owner

abbrev pub bound_input : StreamLookup → Input → BoundInput
bound_input found i = record { stream_id = stream_id_of (owner_of (found i.owner i.stream)) i.stream; window = i.window; projection = i.projection }

abbrev pub bound : StreamLookup → Planned → BoundPlan
bound found plan = record { plan = plan; inputs = map (bound_input found) plan.inputs }
