-- The stubs of all streams.
use Rattle.std.specs.Prelude.{◌≡◌, ℕ, ◌<◌, Bool, false, ◌&&◌, ◌==◌, List, [], length, get_or, map, Option, if◌then◌else◌}
use Rattle.cql_value.specs.Element.{Element}
use Rattle.cql_store.specs.Held.{Held, Stubs, stub_of, Updates, fed_at}
use Rattle.cql_store.specs.declared.stub_ref.StubRef.{StubRef}

-- the stubs of an owner's streams, in order of making
abbrev pub OwnStores : Type 0
OwnStores = List Stubs

-- by owner
abbrev pub AllStores : Type 0
AllStores = List OwnStores

abbrev pub own_at : AllStores → ℕ → OwnStores
own_at all owner = get_or all owner []

abbrev pub store_at : AllStores → ℕ → ℕ → Stubs
store_at all owner stream = get_or (own_at all owner) stream []

abbrev pub held_at : AllStores → StubRef → Option Held
held_at all p = stub_of (store_at all p.owner p.stream) p.stub

abbrev pub stub_ref_of : ℕ → ℕ → ℕ → StubRef
stub_ref_of owner stream stub = record { owner = owner; stream = stream; stub = stub }

-- the same stub; kept closed
unfoldable pub same_stub_ref : StubRef → StubRef → Bool
same_stub_ref p q = (p.owner == q.owner) && (p.stream == q.stream) && (p.stub == q.stub)

-- there is such a stream
pub record IsStream (all : AllStores) (owner stream : ℕ) : Type 0 where
  pub owned : owner < length all
  pub within : stream < length (own_at all owner)

-- the same streams
pub record IsShaped (old new : AllStores) : Type 0 where
  pub owners : length new ≡ length old
  pub streams : (owner : ℕ) → length (own_at new owner) ≡ length (own_at old owner)

-- of an owner's stubs one is this now, and each other what it was
pub record OwnMoves (old new : OwnStores) (stream stub : ℕ) (held : Option Held) : Type 0 where
  pub streams : length new ≡ length old
  pub moved : Updates (get_or old stream []) (get_or new stream []) stub held
  pub rest : (other : ℕ) → (other == stream) ≡ false → get_or new other [] ≡ get_or old other []

-- one stub is this now, and each other what it was
pub record Moves (old new : AllStores) (stub_ref : StubRef) (held : Option Held) : Type 0 where
  pub shape : IsShaped old new
  pub changed : held_at new stub_ref ≡ held
  pub others : (q : StubRef) → same_stub_ref q stub_ref ≡ false → held_at new q ≡ held_at old q
  pub updates : Updates (store_at old stub_ref.owner stub_ref.stream) (store_at new stub_ref.owner stub_ref.stream) stub_ref.stub held
  pub rest : (o s : ℕ) → ((o == stub_ref.owner) && (s == stub_ref.stream)) ≡ false → store_at new o s ≡ store_at old o s

-- one more row for each stub on a stream
pub record Appends (old new : AllStores) (owner stream : ℕ) (x : Element) : Type 0 where
  pub shape : IsShaped old new
  pub appended : (q : StubRef) → held_at new q ≡ (if (q.owner == owner) && (q.stream == stream) then fed_at x (held_at old q) else held_at old q)
  pub stores : (o s : ℕ) → store_at new o s ≡ (if (o == owner) && (s == stream) then map (fed_at x) (store_at old o s) else store_at old o s)
