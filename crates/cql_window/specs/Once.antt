-- Columns that are kept once each.
use Rattle.std.specs.Prelude.{◌≡◌, ℕ, List, [], ◌∷◌, ◌++◌, nat_eq, if◌then◌else◌}
use Rattle.std.specs.List.{list_any}
use Rattle.cql_value.specs.Element.{Element}
use Rattle.cql_window.specs.Window.{last_of_parts}

-- these, and each of those that isn't among them yet
abbrev pub once_from : List ℕ → List ℕ → List ℕ
once_from kept [] = kept
once_from kept (i ∷ is) = if list_any (λ j. nat_eq j i) kept then once_from kept is else once_from (kept ++ i ∷ []) is

-- each of them once, in the order in which they come first
abbrev pub once : List ℕ → List ℕ
once columns = once_from [] columns

-- a window of parts holds by its columns once each what it holds by all of them
abbrev pub IsOnceLaw : Type 0
IsOnceLaw = (columns : List ℕ) (count : ℕ) (xs : List Element) → last_of_parts (once columns) count xs ≡ last_of_parts columns count xs
