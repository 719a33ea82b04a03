-- The rows of a list, in either form.
use Rattle.std.specs.Prelude.{List}
use Rattle.cql_value.specs.Element.{Element}
use Rattle.cql_chunks.specs.declared.chunks.Form.{Form}
use Rattle.cql_chunks.specs.declared.chunks.Form.TheVariants.{Plain, Tree}

abbrev pub rows_in : Form → List Element
rows_in (Plain rows) = rows
rows_in (Tree rows) = rows
