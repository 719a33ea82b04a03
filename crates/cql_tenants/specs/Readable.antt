-- What a tenant reads of a stream: of its own, and of one that was granted to it.
use Rattle.std.specs.Prelude.{ℕ, Bool, ◌==◌, List, [], length, Option, Some, None, if◌then◌else◌}
use Rattle.cql_value.specs.declared.schema.Column.{Column}
use Rattle.cql_window.specs.Projection.{whole_projection}
use Rattle.cql_tenants.specs.Namespace.{Namespace, Stream, Grant, namespace_at, stream_at, grant_of}

-- a stream that a tenant reads: its owner's index, the columns that the tenant sees, whether a grant names them, and the least time that it still takes
pub record StreamView : Type 0 where
  pub owner : ℕ
  pub schema : List Column
  pub named : Bool
  pub opened : ℕ

-- the indices of the columns that a tenant sees, in the stream's own row: all of a stream of its own, of another's those of the grant
abbrev pub own_projection : Option Stream → List ℕ
own_projection None = []
own_projection (Some s) = whole_projection (length s.schema)

abbrev pub granted_projection : Option Grant → List ℕ
granted_projection None = []
granted_projection (Some g) = g.projection

abbrev pub projection_seen : List Namespace → ℕ → ℕ → List ℕ → List ℕ
projection_seen namespaces user owner name = if owner == user then own_projection (stream_at namespaces user name) else granted_projection (grant_of (namespace_at namespaces user) owner name)
