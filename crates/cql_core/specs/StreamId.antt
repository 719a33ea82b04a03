-- Streams by the indices of their owners, and the columns of theirs that a tenant sees.
use Rattle.std.specs.Prelude.{ℕ, Bool, ◌&&◌, ◌==◌, List}
use Rattle.cql_tenants.specs.Named.{same_name}
use Rattle.cql_tenants.specs.declared.namespace.Namespace.{Namespace}
use Rattle.cql_tenants.specs.Readable.{projection_seen}

pub record StreamId : Type 0 where
  pub owner : ℕ
  pub name : List ℕ

abbrev pub stream_id_of : ℕ → List ℕ → StreamId
stream_id_of owner name = record { owner = owner; name = name }

abbrev pub same_stream_id : StreamId → StreamId → Bool
same_stream_id a b = (a.owner == b.owner) && same_name a.name b.name

-- the projection of a stream that a tenant sees; of another's it is asked of the grant
abbrev pub projection_in : List Namespace → ℕ → StreamId → List ℕ
projection_in namespaces user stream_id = projection_seen namespaces user stream_id.owner stream_id.name
