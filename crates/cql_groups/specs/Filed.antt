-- Groups in slots, with an index of their keys.
use Rattle.std.specs.Prelude.{◌≡◌, ℕ, cond, List, [], ◌∷◌, Option, Some, None, map}
use Rattle.std.specs.List.{AllByRecursion}
use Rattle.std.specs.List.Sorted.{IsStrictlySortedBy}
use Rattle.std.specs.BTreeMap.{insert_entry}
use Rattle.std.specs.Map.{lookup, keys_of, remove_entry}
use Rattle.std.specs.Ordering.{is_eq}
use Rattle.slab.specs.Slab.{Slab, get, HasRoomFor}
use Rattle.cql_value.specs.Order.{row_cmp}
use Rattle.cql_value.specs.declared.value.Value.{Value}
use Rattle.cql_groups.specs.Grouped.{at_key}
use Rattle.cql_groups.specs.declared.group.Group.{Group}
use Rattle.cql_groups.specs.declared.group_map.GroupMap.{GroupMap}
use Rattle.cql_groups.specs.declared.group_map.Touched.{Touched}

-- an entry for each slot that the index names
abbrev pub with_group : List Value → Option Group → List (List Value × Group) → List (List Value × Group)
with_group key None rest = rest
with_group key (Some g) rest = (key, g) ∷ rest

abbrev pub entries_in : List (List Value × ℕ) → Slab Group → List (List Value × Group)
entries_in [] slots = []
entries_in (e ∷ index) slots = with_group e.0 (get slots e.1) (entries_in index slots)

abbrev pub groups_in : GroupMap → List (List Value × Group)
groups_in m = entries_in m.index.entries m.slots

-- a slot has the group of a key
abbrev pub IsAt : Slab Group → ℕ → List Value → Type 0
IsAt slots at key = (g : Group) × (get slots at ≡ Some g) × (g.key ≡ key)

abbrev pub slot_of_key : List Value → List (List Value × ℕ) → Option ℕ
slot_of_key key index = lookup (λ k. is_eq (row_cmp key k)) index

-- each key that the index names has its group in its slot, and no other group stands there
pub record AreFiled (index : List (List Value × ℕ)) (slots : Slab Group) : Type 0 where
  pub placed : AllByRecursion (λ e. IsAt slots e.1 e.0) index
  pub sorted : IsStrictlySortedBy row_cmp (keys_of index)
  pub named : (at : ℕ) (g : Group) → get slots at ≡ Some g → slot_of_key g.key index ≡ Some at

abbrev pub IsFiled : GroupMap → Type 0
IsFiled m = AreFiled m.index.entries m.slots

-- the slot of a key
pub record IsSlotOf (key : List Value) (at : ℕ) (m : GroupMap) : Type 0 where
  pub is : IsAt m.slots at key
  pub found : slot_of_key key m.index.entries ≡ Some at

-- the slot of a key, if it has a group
abbrev pub Finds : List Value → GroupMap → Option ℕ → Type 0
Finds key m None = at_key key (groups_in m) ≡ None
Finds key m (Some at) = IsSlotOf key at m

-- the keys that wait
abbrev pub keys_in : List Touched → List (List Value)
keys_in touched = map (λ t. t.key) touched

-- as before, with room for one group more
pub record HasRoom (old new : GroupMap) : Type 0 where
  pub index : new.index.entries ≡ old.index.entries
  pub slots : (at : ℕ) → get new.slots at ≡ get old.slots at
  pub room : HasRoomFor new.slots 1

-- a group was put in, where there was none of its key
pub record IsPut (key : List Value) (g : Group) (old new : GroupMap) : Type 0 where
  pub entries : groups_in new ≡ insert_entry row_cmp (groups_in old) key g
  pub looks : (q : List Value) → at_key q (groups_in new) ≡ cond (is_eq (row_cmp key q)) (Some g) (at_key q (groups_in old))
  pub filed : IsFiled new

-- the group of a key was taken out
pub record IsLetGo (key : List Value) (old new : GroupMap) : Type 0 where
  pub entries : groups_in new ≡ remove_entry (λ k. is_eq (row_cmp key k)) (groups_in old)
  pub looks : (q : List Value) → at_key q (groups_in new) ≡ cond (is_eq (row_cmp key q)) None (at_key q (groups_in old))
  pub filed : IsFiled new
