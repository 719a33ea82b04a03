-- What waits of each owner, and whose turn it is.
use Rattle.std.specs.Prelude.{◌≡◌, ℕ, ◌+◌, ◌<◌, ◌==◌, if◌then◌else◌, Bool, true, false, not, List, [], ◌∷◌, ◌++◌, length, min, slice_index_or, slice_set, Result, Ok, Err}
use Rattle.std.specs.List.{sum_by, count_by, filter, list_all}

-- what waits of each owner, the oldest first, and the owners of whom something waits, the next one first
pub record Queues (T : Type 0) : Type 0 where
  pub lines : List (List T)
  pub order : List ℕ

-- what waits of an owner
abbrev pub line_of : {T : Type 0} → List (List T) → ℕ → List T
line_of lines owner = slice_index_or lines owner []

-- how much waits in all
unfoldable pub size_of : {T : Type 0} → List (List T) → ℕ
size_of lines = sum_by (λ line. length line) lines

-- how often an owner stands in the order
unfoldable pub turns_of : List ℕ → ℕ → ℕ
turns_of order owner = count_by (λ one. one == owner) order

-- an owner stands in the order where something of him waits, and once; and nowhere else
pub record IsOrder {T : Type 0} (lines : List (List T)) (order : List ℕ) : Type 0 where
  pub once : (owner : ℕ) → turns_of order owner ≡ min 1 (length (line_of lines owner))
