-- What the machine keeps of a query, by all rows that came for it. What it keeps are whole rows; by the columns that the tenant sees they are what the windows need of the rows in its view.
use Rattle.std.specs.Prelude.{◌≡◌, ℕ, true, false, List, [], ◌∷◌, nat_lt, if◌then◌else◌}
use Rattle.cql_value.specs.Element.{Element}
use Rattle.cql_window.specs.declared.window.Window.{Window}
use Rattle.cql_window.specs.Window.{content, beyond, charge}
use Rattle.cql_window.specs.Through.{narrowed_all, wide_window}
use Rattle.cql_store.specs.Held.{Held}
use Rattle.cql_tenants.specs.Named.{Named}
use Rattle.cql_core.specs.Bound.{BoundInput}
use Rattle.cql_core.specs.Language.{bare}
use Rattle.cql_core.specs.Machine.{Stub, Live, is_revoked, stubs_left}
use Rattle.cql_core.specs.Solo.{Came, SoloQuery, rows_on}

-- what is held where the rows were let go, and where all is held that the window needs from the cursor on
abbrev pub lost : ℕ → ℕ → BoundInput → Held
lost hold c i = record { window = i.window; cursor = c; hold = hold; content = []; unseen = []; overrun = true }

abbrev pub kept : ℕ → ℕ → BoundInput → List Element → Held
kept hold c i rows = record { window = i.window; cursor = c; hold = hold; content = content i.window c [] rows; unseen = beyond i.window c rows; overrun = false }

-- what is held for an input that had these rows, for a query at a cursor
abbrev pub held_over : ℕ → ℕ → BoundInput → List Element → Held
held_over hold c i rows = if nat_lt hold (charge i.window c [] rows) then lost hold c i else kept hold c i rows

-- what is held of whole rows, through a projection, for a window over the columns there
abbrev pub narrow_held : List ℕ → Window → Held → Held
narrow_held projection w h = record h { window = w; content = narrowed_all projection h.content; unseen = narrowed_all projection h.unseen }

-- an input over the columns that are seen, as one over whole rows of which these are the projection
abbrev pub wide_input : List ℕ → BoundInput → BoundInput
wide_input projection i = record i { window = wide_window projection i.window; projection = projection }

-- for an input that had these rows the machine has its input over the whole rows, and a stub that holds, through that input's projection, what the window needs
pub record IsHeld (hold c : ℕ) (i : BoundInput) (rows : List Element) (wide : BoundInput) (stub : Stub) : Type 0 where
  pub input : wide ≡ wide_input wide.projection i
  pub stream_id : stub.stream_id ≡ i.stream_id
  pub window : stub.held.window ≡ wide.window
  pub held : narrow_held wide.projection i.window stub.held ≡ held_over hold c i rows

abbrev pub AreHeld : ℕ → ℕ → List Came → List BoundInput → List BoundInput → List Stub → Type 0
AreHeld hold c came [] [] [] = Unit {0}
AreHeld hold c came [] [] (s ∷ ss) = ⊥
AreHeld hold c came [] (w ∷ ws) ss = ⊥
AreHeld hold c came (i ∷ is) [] ss = ⊥
AreHeld hold c came (i ∷ is) (w ∷ ws) [] = ⊥
AreHeld hold c came (i ∷ is) (w ∷ ws) (s ∷ ss) = IsHeld hold c i (rows_on i.stream_id came) w s × AreHeld hold c came is ws ss

-- the machine's query is the tenant's; it has no stubs where a grant was taken back, and else holds what the windows need
pub record IsKept (hold : ℕ) (q : Live) (a : SoloQuery) : Type 0 where
  pub plan : bare q.plan.plan ≡ bare a.plan.plan
  pub text : q.text ≡ a.text
  pub base : q.base ≡ a.base
  pub cursor : q.cursor ≡ a.cursor
  pub gone : is_revoked q ≡ a.gone
  pub stubs : a.gone ≡ false → AreHeld hold a.cursor a.came a.plan.inputs q.plan.inputs (stubs_left q)

abbrev pub AreKept : ℕ → List (Named Live) → List (Named SoloQuery) → Type 0
AreKept hold [] [] = Unit {0}
AreKept hold [] (a ∷ rest) = ⊥
AreKept hold (q ∷ qs) [] = ⊥
AreKept hold (q ∷ qs) (a ∷ rest) = ((q.name ≡ a.name) × IsKept hold q.item a.item) × AreKept hold qs rest
