-- A shape by its groups: what is kept of each, what is told, and how many have no value.
use Rattle.std.specs.Prelude.{◌≡◌, ◌++◌, ◌+◌, ◌<◌, ◌≤◌, ◌^◌, ℕ, List, [], ◌∷◌, Option, Some, None, IfSome, is_some, Bool, true, false, ◌&&◌, nat_lt, map, if◌then◌else◌}
use Rattle.std.specs.List.{list_any}
use Rattle.std.specs.Map.{lookup}
use Rattle.std.specs.Ordering.{is_eq}
use Rattle.cql_value.specs.Order.{row_cmp}
use Rattle.cql_value.specs.Schema.{HasTypes}
use Rattle.cql_value.specs.declared.value.Value.{Value}
use Rattle.cql_bag.specs.Bag.{Counts, IsBag, count, put_all, size_of}
use Rattle.cql_bag.specs.Changes.{changed_by, CanChangeBy}
use Rattle.cql_bag.specs.declared.change.Change.{Change}
use Rattle.cql_plan.specs.declared.node.Shape.{Shape}
use Rattle.cql_plan.specs.Fit.{IsTyped}
use Rattle.cql_plan.specs.Node.{item_types}
use Rattle.cql_algebra.specs.GroupChanges.{over_groups, times_lacking}
use Rattle.cql_algebra.specs.Shape.{key_of, group_of, items_over}
use Rattle.cql_algebra.specs.Typed.{AreOf}
use Rattle.cql_groups.specs.Parts.{part_of, part_changed, is_outside}
use Rattle.cql_groups.specs.Layouts.{IsLayout, row_of_parts}
use Rattle.cql_ops.specs.Clauses.{AreChangesOf}
use Rattle.cql_ops.specs.Linear.{with_entry}
use Rattle.cql_ops.specs.Settle.{is_among}
use Rattle.cql_plain.specs.Shaped.{TellsShape}
use Rattle.cql_groups.specs.declared.group.Group.{Group}
use Rattle.cql_groups.specs.declared.layout.Layout.{Layout}
use Rattle.cql_groups.specs.declared.layout.ItemSource.{ItemSource}
use Rattle.cql_groups.specs.declared.accumulator.AccumulatorKind.{AccumulatorKind}

-- what is kept of the rows of a key: how many there are, one row that has the key, and what is asked of columns
pub record IsGroupOf (l : Layout) (key : List Value) (rows : Counts) (g : Group) : Type 0 where
  pub keyed : g.key ≡ key
  pub size : g.size ≡ size_of rows
  pub few : g.size < 2 ^ 63
  pub parts : g.parts.items ≡ map (part_of rows) l.asked
  pub sample : key_of l.shape.groups g.sample ≡ key
  pub types : HasTypes l.shape.columns g.sample

-- after one of its rows came or went
pub record IsChangedGroup (c : Change) (old new : Group) : Type 0 where
  pub key : new.key ≡ old.key
  pub size : new.size + (if c.plus then 0 else 1) ≡ old.size + (if c.plus then 1 else 0)
  pub few : new.size < 2 ^ 63
  pub parts : new.parts.items ≡ map (part_changed c) old.parts.items
  pub lacks : new.lacks ≡ (nat_lt 0 new.size && list_any is_outside new.parts.items)
  pub sample : new.sample ≡ old.sample
  pub told : new.told ≡ old.told
  pub pushed : new.pushed ≡ old.pushed

-- the row of a group that has rows; one without rows has none
abbrev pub IsDue : List ItemSource → Group → Option (List Value) → Type 0
IsDue sources g None = g.size ≡ 0
IsDue sources g (Some row) = (1 ≤ g.size) × (row_of_parts sources g.size g.sample g.parts.items ≡ Some row)

-- some item has no value
abbrev pub IsLacking : List ItemSource → Group → Type 0
IsLacking sources g = (1 ≤ g.size) × (row_of_parts sources g.size g.sample g.parts.items ≡ None)

-- 1 of one that is so
abbrev pub one_if : Bool → ℕ
one_if b = if b then 1 else 0

-- what is held of a key, where some keys are left to be told: a group that isn't left has told its row
pub record IsHeldOf (l : Layout) (left : List (List Value)) (key : List Value) (rows : Counts) (g : Group) : Type 0 where
  pub group : IsGroupOf l key rows g
  pub lacks : one_if g.lacks ≡ times_lacking l.shape.items rows
  pub waits : g.pushed ≡ true → is_among left key ≡ true
  pub settled : g.pushed ≡ false → (row : List Value) × (g.told ≡ Some row) × (1 ≤ g.size) × (items_over l.shape.items rows ≡ Some row)
  pub typed : IsTyped l.shape → IfSome g.told (HasTypes (item_types l.shape.columns l.shape.items))

abbrev pub IsHeldAt : Layout → List (List Value) → List Value → Counts → Option Group → Type 0
IsHeldAt l left key rows None = rows ≡ []
IsHeldAt l left key rows (Some g) = IsHeldOf l left key rows g

abbrev pub at_key : List Value → List (List Value × Group) → Option Group
at_key key groups = lookup (λ k. is_eq (row_cmp key k)) groups

-- the group that was at a key, or one without a row, none of which was told
pub record IsNew (asked : List AccumulatorKind) (key row : List Value) (g : Group) : Type 0 where
  pub keyed : g.key ≡ key
  pub size : g.size ≡ 0
  pub sample : g.sample ≡ row
  pub parts : g.parts.items ≡ map (part_of []) asked
  pub lacks : g.lacks ≡ false
  pub told : g.told ≡ None
  pub pushed : g.pushed ≡ false

abbrev pub IsTaken : List AccumulatorKind → List Value → List Value → Option Group → Group → Type 0
IsTaken asked key row None g = IsNew asked key row g
IsTaken asked key row (Some h) g = g ≡ h

-- the rows told of some groups
abbrev pub told_rows : List (List Value × Group) → Counts
told_rows [] = []
told_rows (e ∷ es) = with_entry e.1.told 1 (told_rows es)

-- the bag that was told of some groups
abbrev pub told_of : List (List Value × Group) → Counts
told_of groups = put_all (told_rows groups) []

-- a group that told its row, in the place of the one told before, and whether it has one
pub record IsSettled (sources : List ItemSource) (old new : Group) (some : Bool) : Type 0 where
  pub due : IsDue sources old new.told
  pub same : new ≡ record old { told = new.told; pushed = false }
  pub is : some ≡ is_some new.told

-- a row may come or go where such a group is, or where there is none; one that lacks a value is among as many
abbrev pub CanChangeAt : List AccumulatorKind → Change → List Value → Option Group → ℕ → Type 0
CanChangeAt asked c key at lacking = (g : Group) → IsTaken asked key c.row at g → (g.size < 2 ^ 63) × (c.plus ≡ false → 1 ≤ g.size) × (g.lacks ≡ true → 1 ≤ lacking)

-- a row came or went in the group of its key, which waits: the groups of other keys, and what was told of each, are as they were
pub record IsChangedAt (asked : List AccumulatorKind) (c : Change) (key : List Value) (old new : List (List Value × Group)) (left more : List (List Value)) (before after : ℕ) : Type 0 where
  pub was : Group
  pub now : Group
  pub taken : IsTaken asked key c.row (at_key key old) was
  pub turned : IsChangedGroup c (record was { pushed = true }) now
  pub looks : (q : List Value) → at_key q new ≡ (if is_eq (row_cmp key q) then Some now else at_key q old)
  pub told : (q : List Value) → count q (told_rows new) ≡ count q (told_rows old)
  pub waits : more ≡ (if was.pushed then left else left ++ was.key ∷ [])
  pub counted : after + one_if was.lacks ≡ before + one_if now.lacks

-- the groups of the port's bag, and the bag that was told of them
pub record IsGrouping (l : Layout) (port told : Counts) (groups : List (List Value × Group)) (left : List (List Value)) : Type 0 where
  pub layout : IsLayout l
  pub in_port : AreOf l.shape.columns port
  pub port_bag : IsBag port
  pub told_bag : IsBag told
  pub held : (key : List Value) → IsHeldAt l left key (group_of l.shape.groups port key) (at_key key groups)
  pub rows : (row : List Value) → count row told ≡ count row (told_rows groups)

-- how many groups of the port have no value
abbrev pub lacking_groups : Shape → Counts → ℕ
lacking_groups shape port = over_groups shape.groups (times_lacking shape.items) port

-- changes of the bag that was told, of rows of the items' types
pub record AreTold (shape : Shape) (told after : Counts) (changes : List Change) : Type 0 where
  pub there : CanChangeBy changes told
  pub leads : after ≡ changed_by changes told
  pub columns : IsTyped shape → AreChangesOf (item_types shape.columns shape.items) changes

-- a list grew by such changes
abbrev pub TellsGroups : Shape → Counts → Counts → List Change → List Change → Type 0
TellsGroups shape told after before out = (changes : List Change) × (out ≡ before ++ changes) × AreTold shape told after changes

-- a group after one of its rows came or went: its key waits, and so many lack a value
abbrev pub IsChangedOne : Change → Group → Group → List (List Value) → List (List Value) → ℕ → ℕ → Type 0
IsChangedOne c old new left more before after = record {
  group : IsChangedGroup c (record old { pushed = true }) new;
  touched : more ≡ (if old.pushed then left else left ++ old.key ∷ []);
  lacking : after + one_if old.lacks ≡ before + one_if new.lacks;
}

-- the port is this, and what is kept beside it is of it; nothing more is told
abbrev pub IsPushed : Layout → Counts → Counts → Counts → List (List Value × Group) → List (List Value) → ℕ → Type 0
IsPushed l after before now groups left many = record {
  port : now ≡ after;
  told : told_of groups ≡ before;
  held : IsGrouping l now (told_of groups) groups left;
  lacking : many ≡ lacking_groups l.shape now;
}

-- all groups that waited are told
abbrev pub IsToldAll : Layout → Counts → List (List Value × Group) → List (List Value × Group) → List (List Value) → List Change → List Change → Type 0
IsToldAll l port old new left before out = record {
  groups : IsGrouping l port (told_of new) new left;
  told : TellsShape l.shape port (told_of old) (told_of new) before out;
}

-- the group of a key is told, and waits no more
abbrev pub IsToldOf : Layout → Counts → List (List Value × Group) → List (List Value × Group) → List (List Value) → List Change → List Change → Type 0
IsToldOf l port old new left before out = record {
  groups : IsGrouping l port (told_of new) new left;
  told : TellsGroups l.shape (told_of old) (told_of new) before out;
}
