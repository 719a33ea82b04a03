-- What is kept of a grant.
use Rattle.std.specs.Prelude.{ℕ, Bool, List}
use Rattle.cql_value.specs.declared.schema.Column.{Column}

-- a stream that another tenant granted: its owner's index, its own among the owner's streams, its name, the columns that the reader sees, where these stand among the stream's own, and whether the grant names them
pub record Grant : Type 0 where
  pub owner : ℕ
  pub index : ℕ
  pub stream : List ℕ
  pub schema : List Column
  pub projection : List ℕ
  pub named : Bool
