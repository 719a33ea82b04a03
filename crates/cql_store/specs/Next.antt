-- From when on elements may come.
use Rattle.std.specs.Prelude.{◌≡◌, ℕ, ◌≤◌, ◌<◌, ◌^◌, false, List, [], map, Some, None}
use Rattle.cql_value.specs.Element.{Element}
use Rattle.cql_value.specs.declared.value.Value.{Value}
use Rattle.cql_value.specs.declared.schema.ColumnType.{ColumnType}
use Rattle.cql_value.specs.Schema.{HasTypes}
use Rattle.cql_window.specs.declared.window.Window.{Window}
use Rattle.cql_window.specs.Pin.{HasColumns}
use Rattle.cql_store.specs.Held.{Held, Stubs, stub_of, Updates, opened, fed_at, advanced, CanAppend}

-- every element of this time or a later one, with a row of this kind, may come
abbrev pub TakesFrom : (List Value → Type 0) → ℕ → Stubs → Type 0
TakesFrom P n stubs = (x : Element) → n ≤ x.at → x.at < 2 ^ 62 → P x.row → CanAppend stubs x

-- every row of this kind has the columns by which the window parts
abbrev pub FitsWindow : (List Value → Type 0) → Window → Type 0
FitsWindow P w = (x : Element) → P x.row → HasColumns w x

-- what a store takes from a time on, it takes from there on after each call that fits
pub record NextLaw (P : List Value → Type 0) : Type 0 where
  pub none : (n : ℕ) → TakesFrom P n []
  pub attached : (n : ℕ) (old new : Stubs) (id : ℕ) (w : Window) (base hold : ℕ) → TakesFrom P n old → Updates old new id (Some (opened w base hold)) → base ≤ n → FitsWindow P w → TakesFrom P n new
  pub appended : (n : ℕ) (old new : Stubs) (x : Element) → TakesFrom P n old → n ≤ x.at → new ≡ map (fed_at x) old → TakesFrom P x.at new
  pub advanced : (n m : ℕ) (old new : Stubs) (id to : ℕ) (h : Held) → TakesFrom P n old → stub_of old id ≡ Some h → h.overrun ≡ false → Updates old new id (Some (advanced to h)) → n ≤ m → to ≤ m → TakesFrom P m new
  pub detached : (n : ℕ) (old new : Stubs) (id : ℕ) → TakesFrom P n old → Updates old new id None → TakesFrom P n new

-- so it is with rows of any types
abbrev pub IsNextLaw : Type 0
IsNextLaw = (columns : List ColumnType) → NextLaw (HasTypes columns)
