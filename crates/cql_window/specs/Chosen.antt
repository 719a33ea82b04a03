-- The columns of a stream that a grant shows.
use Rattle.std.specs.Prelude.{ℕ, Bool, true, ◌&&◌, not, List, [], ◌∷◌, length, map, Option, Some, None, unwrap_or, nat_le, is_some}
use Rattle.std.specs.List.{list_all, list_any, position}
use Rattle.std.specs.Str.{bytes_eq}
use Rattle.cql_value.specs.declared.schema.Column.{Column}
use Rattle.cql_window.specs.Projection.{whole_projection}

-- the index of the column of that name
abbrev pub column_index : List Column → List ℕ → Option ℕ
column_index columns name = position (λ column. bytes_eq column.name name) columns

-- no two are one
abbrev pub are_unlike : List (List ℕ) → Bool
are_unlike [] = true
are_unlike (name ∷ names) = not (list_any (λ other. bytes_eq name other) names) && are_unlike names

-- where no columns are named a grant may show all, else those of 1 to 16 names of columns, none of them twice
abbrev pub is_shown : List Column → Option (List (List ℕ)) → Bool
is_shown columns None = true
is_shown columns (Some names) =
    nat_le 1 (length names) && nat_le (length names) 16 && list_all (λ name. is_some (column_index columns name)) names && are_unlike names

-- the indices of the columns that are shown: all, or those of the names in their order
abbrev pub shown_projection : List Column → Option (List (List ℕ)) → List ℕ
shown_projection columns None = whole_projection (length columns)
shown_projection columns (Some names) = map (λ name. unwrap_or (column_index columns name) 0) names
