-- The groups of a bag by key.
use Rattle.std.specs.Prelude.{◌≡◌, ℕ, List, [], ◌∷◌, map, Option, Some, None}
use Rattle.std.specs.Option.{unwrap_or}
use Rattle.std.specs.Map.{lookup}
use Rattle.std.specs.BTreeMap.{is_at, insert_entry}
use Rattle.cql_value.specs.Order.{row_cmp}
use Rattle.cql_value.specs.declared.value.Value.{Value}
use Rattle.cql_bag.specs.Bag.{Counts, put_times}
use Rattle.cql_algebra.specs.Shape.{key_bag, group_of}

-- a bag for each key, by key
abbrev pub Groups : Type 0
Groups = List (List Value × Counts)

-- the groups with a row of the key so many times more
abbrev pub with_row : List Value → List Value → ℕ → Groups → Groups
with_row key row n groups = insert_entry row_cmp groups key (put_times row n (unwrap_or (lookup (is_at (row_cmp key)) groups) []))

-- each key of a bag, and its rows
abbrev pub groups_by : List ℕ → Counts → Groups
groups_by columns bag = map (λ e. (e.0, group_of columns bag e.0)) (key_bag columns bag)

-- the rows put to the groups of their keys, one after another
abbrev pub gather : (List Value → List Value) → Counts → Groups → Groups
gather key [] groups = groups
gather key (e ∷ es) groups = gather key es (with_row (key e.0) e.0 e.1 groups)

-- an entry and those behind it, or none
abbrev pub entries_from : Option (List Value × ℕ) → Counts → Counts
entries_from None es = []
entries_from (Some e) es = e ∷ es

-- the same groups come of these entries behind the group of a key as of those behind that of it
abbrev pub IsSameMade : (List Value → List Value) → List Value → Counts → Counts → Counts → Counts → Type 0
IsSameMade key k before group left grown = (groups : Groups) → gather key before (insert_entry row_cmp groups k group) ≡ gather key left (insert_entry row_cmp groups k grown)
