-- What a stream that comes or goes leaves as it is.
use Rattle.std.specs.Prelude.{◌≡◌, ℕ, ◌<◌, ◌==◌, false, [], ◌∷◌, ◌++◌, length, set}
use Rattle.cql_store.specs.declared.stub_ref.StubRef.{StubRef}
use Rattle.cql_store.specs.Stores.{OwnStores, AllStores, own_at, store_at, held_at, IsStream}

-- an owner has one stream more, with no stub: every store and every stub holds what it held
pub record IsOneMore (old new : AllStores) (owner : ℕ) : Type 0 where
  pub owners : length new ≡ length old
  pub own : own_at new owner ≡ own_at old owner ++ [] ∷ []
  pub others : (o : ℕ) → (o == owner) ≡ false → own_at new o ≡ own_at old o
  pub stores : (o s : ℕ) → store_at new o s ≡ store_at old o s
  pub held : (q : StubRef) → held_at new q ≡ held_at old q
  pub streams : (o s : ℕ) → IsStream old o s → IsStream new o s
  pub made : IsStream new owner (length (own_at old owner))
  pub bare : store_at new owner (length (own_at old owner)) ≡ []
  pub back : set new owner (own_at old owner) ≡ old

abbrev pub IsAddLaw : Type 0
IsAddLaw = (all : AllStores) (owner : ℕ) → owner < length all → IsOneMore all (set all owner (own_at all owner ++ [] ∷ [])) owner

-- taken away again, it was one stream more
abbrev pub IsRemoveLaw : Type 0
IsRemoveLaw = (all : AllStores) (owner : ℕ) (front : OwnStores) → owner < length all → own_at all owner ≡ front ++ [] ∷ [] → IsOneMore (set all owner front) all owner
