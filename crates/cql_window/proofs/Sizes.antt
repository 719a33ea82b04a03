-- How many columns a schema has.
use Rattle.std.proofs.Common.{◌≡◌, ◌≤◌, true, ◌&&◌, List, length, arith}
use Rattle.std.specs.Prelude.{nat_le}
use Rattle.std.proofs.lemmas.Bool.Decides.{nat_tests}
use Rattle.std.proofs.lemmas.Bool.{and_parts}
use Rattle.cql_value.specs.declared.schema.Column.{Column}
use Rattle.cql_value.specs.Schema.{is_schema}

-- a schema has at most 16 columns
pub schema_size : (columns : List Column) → is_schema columns ≡ true → length columns ≤ 16
schema_size columns h =
    let ends = and_parts (nat_le 1 (length columns) && nat_le (length columns) 16) _ h in
    let most = (and_parts (nat_le 1 (length columns)) _ ends.0).1 in
    grind (arith, nat_tests, most)
