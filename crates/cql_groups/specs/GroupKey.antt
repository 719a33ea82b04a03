-- What the key of a group is seen as.
use Rattle.std.specs.Prelude.{List, [], ◌∷◌}
use Rattle.cql_value.specs.declared.value.Value.{Value}
use Rattle.cql_value.specs.declared.value.Value.TheVariants as value
use Rattle.cql_groups.specs.declared.group_key.KeyForm.{KeyForm}
use Rattle.cql_groups.specs.declared.group_key.KeyForm.TheVariants.{Number, Row}

abbrev pub values_of : KeyForm → List Value
values_of (Number n) = value.Number n ∷ []
values_of (Row values) = values
