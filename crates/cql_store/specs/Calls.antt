-- What calls make of a store's stubs.
use Rattle.std.specs.Prelude.{◌≡◌, ℕ, ◌==◌, ◌||◌, Bool, false, List, [], ◌∷◌, ◌++◌, map, nat_lt, if◌then◌else◌, Option, Some, None}
use Rattle.cql_value.specs.Element.{Element}
use Rattle.cql_window.specs.declared.window.Window.{Window}
use Rattle.cql_window.specs.Window.{content, beyond, charge}
use Rattle.cql_store.specs.Held.{Held, Stubs, stub_of, Updates, opened, fed_at, advanced, CanAppend, CanAdvance}

-- a call that changed a store
pub data Call : Type 0 where
  -- a stub was attached, and given this number
  Attach : (id : ℕ) (window : Window) (base hold : ℕ) → Call
  Append : (x : Element) → Call
  Advance : (id to : ℕ) → Call
  Detach : (id : ℕ) → Call

-- what the contract of a call says of the stubs before it and after it, and what it asks for
abbrev pub Makes : Stubs → Call → Stubs → Type 0
Makes old (Attach id window base hold) new = (stub_of old id ≡ None) × Updates old new id (Some (opened window base hold))
Makes old (Append x) new = CanAppend old x × (new ≡ map (fed_at x) old)
Makes old (Advance id to) new = (h : Held) × (stub_of old id ≡ Some h) × CanAdvance to h × Updates old new id (Some (advanced to h))
Makes old (Detach id) new = Updates old new id None

-- the calls, one after the other
abbrev pub Make : Stubs → List Call → Stubs → Type 0
Make old [] new = new ≡ old
Make old (call ∷ calls) new = (next : Stubs) × Makes old call next × Make next calls new

-- what calls say of one stub: the elements that were appended since it was attached, and whether there were ever too many
pub record Said : Type 0 where
  pub window : Window
  pub cursor : ℕ
  pub hold : ℕ
  pub elements : List Element
  pub overrun : Bool

-- an element came: the stub is overrun where its charge, with the element, passes its hold
abbrev pub with_element : Element → Said → Said
with_element x s =
    record s {
      elements = s.elements ++ x ∷ [];
      overrun = (s.overrun || nat_lt s.hold (charge s.window s.cursor [] (s.elements ++ x ∷ [])));
    }

-- what a call says of the stub of a number
abbrev pub said_by : ℕ → Option Said → Call → Option Said
said_by id before (Attach given window base hold) =
    if given == id then Some (record { window = window; cursor = base; hold = hold; elements = []; overrun = false }) else before
said_by id None (Append x) = None
said_by id (Some s) (Append x) = Some (with_element x s)
said_by id None (Advance given to) = None
said_by id (Some s) (Advance given to) = if given == id then Some (record s { cursor = to }) else Some s
said_by id before (Detach given) = if given == id then None else before

-- and what a list of calls says
abbrev pub said : ℕ → Option Said → List Call → Option Said
said id before [] = before
said id before (call ∷ calls) = said id (said_by id before call) calls

-- the stub that has this said of it: it holds, of all those elements, the content at its cursor and those beyond it
abbrev pub held_by : Said → Held
held_by s = record {
  window = s.window;
  cursor = s.cursor;
  hold = s.hold;
  content = (if s.overrun then [] else content s.window s.cursor [] s.elements);
  unseen = (if s.overrun then [] else beyond s.window s.cursor s.elements);
  overrun = s.overrun;
}

abbrev pub held_if_any : Option Said → Option Held
held_if_any None = None
held_if_any (Some s) = Some (held_by s)

-- after any calls on a new store each stub holds what the calls say
abbrev pub IsStubLaw : Type 0
IsStubLaw = (calls : List Call) (stubs : Stubs) → Make [] calls stubs → (id : ℕ) → stub_of stubs id ≡ held_if_any (said id None calls)
