-- What the machine looks up of streams, among the namespaces.
use Rattle.std.specs.Prelude.{List, ℕ, Option, Some, option_map}
use Rattle.cql_plan.specs.VisibleColumns.{VisibleColumns}
use Rattle.cql_plan.specs.Sources.{SchemaLookup}
use Rattle.cql_tenants.specs.declared.namespace.Namespace.{Namespace}
use Rattle.cql_tenants.specs.Lookup.{found_of, owner_meant, opened_at}
use Rattle.cql_tenants.specs.Readable.{StreamView}
use Rattle.cql_core.specs.Bound.{StreamLookup}
use Rattle.cql_core.specs.StreamId.{StreamId, stream_id_of}

-- the streams that a tenant of the table reads, by what stands before the dot and by the name
abbrev pub found_by : List Namespace → ℕ → StreamLookup
found_by namespaces user owner name = found_of namespaces user (owner_meant namespaces user owner) name

-- a stream as the tenant reads it, where it may
abbrev pub readable_to : List Namespace → ℕ → StreamId → Option StreamView
readable_to namespaces user stream_id = found_of namespaces user (Some stream_id.owner) stream_id.name

-- the least time that a stream still takes
abbrev pub opened_in : List Namespace → StreamId → ℕ
opened_in namespaces stream_id = opened_at namespaces stream_id.owner stream_id.name

-- the columns that a tenant sees, with the index of each in the stream's own row
abbrev pub visible_at : (StreamId → List ℕ) → List ℕ → StreamView → VisibleColumns
visible_at projection_of name s = record { schema = s.schema; projection = projection_of (stream_id_of s.owner name) }

abbrev pub columns_at : (StreamId → List ℕ) → StreamLookup → SchemaLookup
columns_at projection_of found owner name = option_map (visible_at projection_of name) (found owner name)
