-- What is kept of the rows of a group, and how it changes with them.
use Rattle.std.specs.Prelude.{ℕ, ℤ, ◌+ℤ◌, ◌-ℤ◌, [], ◌∷◌, Bool, true, false, slice_get}
use Rattle.std.specs.Option.{is_none}
use Rattle.cql_bag.specs.Bag.{Counts}
use Rattle.cql_bag.specs.Changes.{change_of, changed}
use Rattle.cql_bag.specs.declared.change.Change.{Change}
use Rattle.cql_plan.specs.Expr.{within}
use Rattle.cql_algebra.specs.Shape.{total, key_of}
use Rattle.cql_algebra.specs.ShapeLaws.{number_in}
use Rattle.cql_algebra.specs.GroupChanges.{column_bag}
use Rattle.cql_groups.specs.declared.accumulator.AccumulatorKind.{AccumulatorKind}
use Rattle.cql_groups.specs.declared.accumulator.AccumulatorKind.TheVariants as ask
use Rattle.cql_groups.specs.declared.accumulator.Accumulator.{Accumulator}
use Rattle.cql_groups.specs.declared.accumulator.Accumulator.TheVariants.{Sum, Values}

-- what is asked of a column, over the rows of a group: the exact total, or the bag of the values
abbrev pub part_of : Counts → AccumulatorKind → Accumulator
part_of rows (ask.Sum at) = Sum at (total at rows)
part_of rows (ask.Values at) = Values at (column_bag at rows)

-- the column that a part is of
abbrev pub column_of : Accumulator → ℕ
column_of (Sum at sum) = at
column_of (Values at values) = at

-- a sum after a row came or went
abbrev pub moved : Bool → ℤ → ℤ → ℤ
moved true sum z = sum +ℤ z
moved false sum z = sum -ℤ z

-- the change of a column's values
abbrev pub value_change : ℕ → Change → Change
value_change at c = change_of c.plus (key_of (at ∷ []) c.row)

-- after a change of the group
abbrev pub part_changed : Change → Accumulator → Accumulator
part_changed c (Sum at sum) = Sum at (moved c.plus sum (number_in (slice_get c.row at)))
part_changed c (Values at values) = Values at (changed (value_change at c) values)

-- whether it is a sum that is no value
abbrev pub is_outside : Accumulator → Bool
is_outside (Sum at sum) = is_none (within sum)
is_outside (Values at values) = false
