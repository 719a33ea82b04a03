-- Rows in two lists: as they came, and part by part.
use Rattle.std.specs.Prelude.{◌≡◌, ℕ, ◌<◌, List, [], ◌∷◌, Bool, ◌||◌, ◌&&◌, Option}
use Rattle.std.specs.List.{filter, AllByRecursion}
use Rattle.std.specs.Ordering.{is_lt, is_eq}
use Rattle.cql_value.specs.declared.value.Value.{Value}
use Rattle.cql_window.specs.Key.{key_of, key_cmp}
use Rattle.cql_chunks.specs.declared.seq.Numbered.{Numbered}
use Rattle.cql_chunks.specs.Seq.{IsDown}

-- what the row has at the columns by which rows are parted
abbrev pub key_in : List ℕ → Numbered → List (Option Value)
key_in columns x = key_of columns x.row.row

-- it is of a part before the key's, or of its part too
abbrev pub is_before : List ℕ → List (Option Value) → Bool → Numbered → Bool
is_before columns key also x = is_lt (key_cmp (key_in columns x) key) || (also && is_eq (key_cmp (key_in columns x) key))

-- the rows of the key's part
abbrev pub part_in : List ℕ → List (Option Value) → List Numbered → List Numbered
part_in columns key xs = filter (λ x. is_eq (key_cmp (key_in columns x) key)) xs

-- the numbers rise, and are below the next
abbrev pub AreNumbered : ℕ → List Numbered → Type 0
AreNumbered next [] = Unit {0}
AreNumbered next (x ∷ xs) = (x.number < next) × AllByRecursion (λ y. x.number < y.number) xs × AreNumbered next xs

-- the same rows part by part, those of each in order
pub record AreParted (columns : List ℕ) (rows parts : List Numbered) : Type 0 where
  pub sorted : (key : List (Option Value)) (also : Bool) → IsDown (is_before columns key also) parts
  pub same : (key : List (Option Value)) → part_in columns key parts ≡ part_in columns key rows
