-- The schema of the columns that a command names.
use Rattle.std.specs.Prelude.{List, [], ◌∷◌, Option, Some, None, option_map, option_and_then, if◌then◌else◌}
use Rattle.cql_value.specs.declared.schema.Column.{Column}
use Rattle.cql_value.specs.Name.{is_name}
use Rattle.cql_value.specs.Schema.{type_named, is_schema}
use Rattle.cql_core.specs.declared.command.ColumnText.{ColumnText}

-- the column that is named so, where the name is one and the type is known
abbrev pub column_of : ColumnText → Option Column
column_of c = if is_name c.name then option_map (λ kind. record { name = c.name; kind = kind }) (type_named c.kind) else None

abbrev pub columns_of : List ColumnText → Option (List Column)
columns_of [] = Some []
columns_of (c ∷ cs) = option_and_then (λ column. option_map (λ columns. column ∷ columns) (columns_of cs)) (column_of c)

-- the schema of the columns, if they have one
abbrev pub schema_of : List ColumnText → Option (List Column)
schema_of cs = option_and_then (λ columns. if is_schema columns then Some columns else None) (columns_of cs)
