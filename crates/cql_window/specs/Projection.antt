-- Projections of a stream's row: a tenant sees the values in its columns, in their order.
use Rattle.std.specs.Prelude.{ℕ, ◌<◌, List, slice_get}
use Rattle.std.specs.List.{AllByRecursion, filter_map, range_with_len}

-- what stands in the columns of a projection, in their order
abbrev pub projected : {A : Type 0} → List A → List ℕ → List A
projected xs projection = filter_map (λ column. slice_get xs column) projection

-- the indices of so many columns
abbrev pub whole_projection : ℕ → List ℕ
whole_projection many = range_with_len 0 many

-- each index is one of so many
abbrev pub AreWithin : List ℕ → ℕ → Type 0
AreWithin projection many = AllByRecursion (λ column. column < many) projection
