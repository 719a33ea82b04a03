-- What a caller sees of a stream.
use Rattle.std.specs.Prelude.{ℕ, List}
use Rattle.cql_value.specs.declared.schema.Column.{Column}
use Rattle.cql_plan.specs.declared.lookup.Readable.{Readable}

-- the columns that are seen, and the index of each in the stream's whole row
pub record VisibleColumns : Type 0 where
  pub schema : List Column
  pub projection : List ℕ

abbrev pub visible_of : Readable → VisibleColumns
visible_of r = record { schema = r.schema.now; projection = r.places.now }
