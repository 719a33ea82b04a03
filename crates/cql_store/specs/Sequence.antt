-- The stubs' sequence numbers: they count the rows that came to the store.
use Rattle.std.specs.Prelude.{◌≡◌, ℕ, ◌+◌, ◌-◌, ◌^◌, ◌≤◌, ◌<◌, true, false, List, [], ◌∷◌, ◌++◌, length, take, drop, map, if◌then◌else◌, nat_lt, Option, Some, None, slice_index_or, min}
use Rattle.cql_value.specs.Element.{Element}
use Rattle.cql_window.specs.declared.window.Window.{Window}
use Rattle.cql_window.specs.declared.window.Window.TheVariants.{Range, Rows, All as all, Parts}
use Rattle.cql_window.specs.Pin.{AreRows}
use Rattle.cql_window.specs.Bounds.{end_in}
use Rattle.cql_window.specs.Window.{count_before, last_of_parts}
use Rattle.cql_store.specs.Held.{Held, Stubs}
use Rattle.cql_store.specs.declared.stub.Stub.{Stub}

-- the stubs as the slab has them
abbrev pub Slots : Type 0
Slots = List (Option Stub)

abbrev pub slot_of : Slots → ℕ → Option Stub
slot_of slots id = slice_index_or slots id None

-- ---- numbers that count the store's rows from the front

-- what a stub holds of the store's rows
abbrev pub shown : List Element → Stub → Held
shown rows s =
    record {
      window = s.window;
      cursor = s.cursor;
      hold = s.hold;
      content = (if s.overrun then [] else s.kept ++ take (s.read_to - s.first) (drop s.first rows));
      unseen = (if s.overrun then [] else drop s.read_to rows);
      overrun = s.overrun;
    }

-- how many rows a stub has among so many
abbrev pub held_count : ℕ → Stub → ℕ
held_count len s = len - s.first + length s.kept

-- a stub that had to let its rows go
abbrev pub emptied : Stub → Stub
emptied s = record s { overrun = true; kept = [] }

-- where so many rows have come, a stub that was marked as overrun, or has more rows than it may hold, has let its rows go
abbrev pub marked : ℕ → Stub → Stub
marked count s = if s.overrun then emptied s else if nat_lt s.hold (held_count count s) then emptied s else s

abbrev pub at_some : (Stub → Stub) → Option Stub → Option Stub
at_some f None = None
at_some f (Some s) = Some (f s)

-- a stub that isn't overrun
pub record IsLive (slots : Slots) (id : ℕ) (s : Stub) : Type 0 where
  pub held : slot_of slots id ≡ Some s
  pub live : s.overrun ≡ false

-- the stubs where so many rows have come, whether those that are overrun were marked yet or not
abbrev pub settled : ℕ → Slots → Slots
settled count slots = map (at_some (marked count)) slots

-- from one slot to before another those that are overrun were marked, and keep no rows
abbrev pub AreMarkedIn : ℕ → Slots → ℕ → ℕ → Type 0
AreMarkedIn count slots from to = (id : ℕ) (s : Stub) → from ≤ id → id < to → slot_of slots id ≡ Some s → marked count s ≡ s

-- a window of parts keeps its content itself, which are the newest of their parts; any other none
abbrev pub IsKept : Window → List Element → ℕ → ℕ → Type 0
IsKept (Range len slide) kept first read_to = kept ≡ []
IsKept (Rows count slide) kept first read_to = kept ≡ []
IsKept all kept first read_to = kept ≡ []
IsKept (Parts columns count) kept first read_to = (first ≡ read_to) × (last_of_parts columns count kept ≡ kept)

-- its numbers are in order, what is counted came before the end, its rows are rows of its window, and it has no more than it may hold
pub record IsSound (rows : List Element) (s : Stub) : Type 0 where
  pub order : s.first ≤ s.read_to
  pub counted : s.read_to ≤ s.counted
  pub known : s.counted - s.read_to ≤ count_before (end_in s.window s.cursor) (drop s.read_to rows)
  pub within : s.counted ≤ length rows
  pub kept : IsKept s.window s.kept s.first s.read_to
  pub fit : AreRows s.window (s.kept ++ drop s.first rows)
  pub room : held_count (length rows) s ≤ s.hold

-- ---- numbers that count all rows that came to the store, of which so many are gone

-- the stub with numbers that count from the front
abbrev pub shifted : ℕ → Stub → Stub
shifted gone s = record s { first = s.first - gone; read_to = s.read_to - gone; counted = s.counted - gone }

abbrev pub shown_at : List Element → ℕ → Option Stub → Option Held
shown_at rows gone None = None
shown_at rows gone (Some s) = Some (shown rows (shifted gone s))

abbrev pub all_shown : List Element → ℕ → Slots → Stubs
all_shown rows gone slots = map (shown_at rows gone) slots

-- a stub that needs no row that is gone is sound
pub record IsSoundAfter (rows : List Element) (gone : ℕ) (s : Stub) : Type 0 where
  pub sound : IsSound rows (shifted gone s)
  pub behind : gone ≤ s.first

-- every stub that isn't overrun is
abbrev pub AreSoundAfter : List Element → ℕ → Slots → Type 0
AreSoundAfter rows gone slots = (id : ℕ) (s : Stub) → IsLive slots id s → IsSoundAfter rows gone s

-- ---- numbers by slot

-- the greatest number, which stands where no stub has one
abbrev pub greatest : ℕ
greatest = 2 ^ 64 - 1

-- so many rows may have come before the stub has one too many
abbrev pub limit : Stub → ℕ
limit s = min (s.first + (s.hold - length s.kept)) greatest

abbrev pub first_at : Option Stub → ℕ
first_at None = greatest
first_at (Some s) = if s.overrun then greatest else s.first

abbrev pub limit_at : Option Stub → ℕ
limit_at None = greatest
limit_at (Some s) = if s.overrun then greatest else limit s

-- each number is that of the stub in its slot, and each stub has one
pub record AreOf (number : Option Stub → ℕ) (slots : Slots) (numbers : List ℕ) : Type 0 where
  pub each : (id : ℕ) → slice_index_or numbers id greatest ≡ number (slot_of slots id)
  pub covers : (id : ℕ) (s : Stub) → slot_of slots id ≡ Some s → id < length numbers

-- the same numbers, and maybe more slots where none stands
pub record AreLonger (old new : List ℕ) : Type 0 where
  pub same : (id : ℕ) → slice_index_or new id greatest ≡ slice_index_or old id greatest
  pub longer : length old ≤ length new

-- the first rows and the limits of the stubs are known
pub record AreKnown (slots : Slots) (firsts limits : List ℕ) : Type 0 where
  pub of_firsts : AreOf first_at slots firsts
  pub of_limits : AreOf limit_at slots limits

-- no stub that isn't overrun keeps more rows itself than it may hold
abbrev pub AreWithin : Slots → Type 0
AreWithin slots = (id : ℕ) (s : Stub) → IsLive slots id s → length s.kept ≤ s.hold

-- how many stubs aren't overrun
abbrev pub lives : Option Stub → ℕ
lives None = 0
lives (Some s) = if s.overrun then 0 else 1

abbrev pub live_count : Slots → ℕ
live_count [] = 0
live_count (o ∷ slots) = lives o + live_count slots

-- ---- the store

-- what holds of the rows and the stubs whatever rows are kept
pub record IsKnown (rows : List Element) (gone : ℕ) (slots : Slots) (firsts limits : List ℕ) : Type 0 where
  pub fits : gone + length rows ≤ greatest
  pub sound : AreSoundAfter rows gone slots
  pub known : AreKnown slots firsts limits

-- a stub needs the first row
pub record IsFirst (slots : Slots) (gone : ℕ) : Type 0 where
  pub id : ℕ
  pub stub : Stub
  pub live : IsLive slots id stub
  pub first : stub.first ≡ gone

-- and no row is kept that no stub needs
pub record IsStore (rows : List Element) (gone : ℕ) (slots : Slots) (firsts limits : List ℕ) : Type 0 where
  pub known : IsKnown rows gone slots firsts limits
  pub trimmed : 0 < length rows → IsFirst slots gone
