-- What a list shows of the streams that a tenant reads.
use Rattle.std.specs.Prelude.{List, Option, ℕ, Bool, None, Some, if◌then◌else◌, map}
use Rattle.cql_value.specs.declared.schema.Column.{Column}
use Rattle.cql_tenants.specs.Named.{Named}
use Rattle.cql_tenants.specs.declared.readable.OwnStream.{OwnStream}
use Rattle.cql_tenants.specs.Namespace.{Stream}

-- of a stream that was granted to the tenant: the names of its owner and of itself, those of the columns where the grant names them, and the least time that it still takes
pub record GrantedStream : Type 0 where
  pub owner : List ℕ
  pub stream : List ℕ
  pub columns : Option (List (List ℕ))
  pub opened : ℕ

-- the names of the columns, where the grant names them
abbrev pub named_columns : Bool → List Column → Option (List (List ℕ))
named_columns named columns = if named then Some (map (λ c. c.name) columns) else None

-- of a stream of the tenant's own
abbrev pub own_stream : Named Stream → OwnStream
own_stream s = record { name = s.name; opened = s.item.clock }
