-- What waits to be let go.
use Rattle.std.specs.Prelude.{ℕ, ◌+◌, length, sum_by}
use Rattle.std.specs.Option.{option_map_or}
use Rattle.std.specs.Arc.{arc_value}
use Rattle.cql_chunks.specs.declared.waste.Waste.{Waste}

-- how many rows do
abbrev pub waiting : Waste → ℕ
waiting w = sum_by (λ t. length (arc_value t)) w.trees.items + option_map_or (λ v. length v.items) w.rows 0
