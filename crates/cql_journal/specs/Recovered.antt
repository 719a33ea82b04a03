-- What is recovered of a journal.
use Rattle.std.specs.Prelude.{⊤, ◌≡◌, ◌+◌, ◌-◌, ◌^◌, ◌≤◌, ℕ, Bool, true, false, List, [], ◌∷◌, ◌++◌, length, Option, IfSome}
use Rattle.std.specs.Io.KnownBytes.{Consumes, Keeps}
use Rattle.cql_tenants.specs.declared.tenants.Tenant.{Tenant}
use Rattle.cql_core.specs.Machine.{State, opening}
use Rattle.cql_journal.specs.Record.{Entry, first_chain, heading, batch, batch_chain, written, chain_behind, IsBatch, AreBatches, NoBatch}
use Rattle.cql_journal.specs.Splits.{IsFile, file_of}
use Rattle.cql_journal.specs.Starting.{IsNew, IsOther}
use Rattle.cql_journal.specs.Hidden.{TooLong, Hides, HidesNone}
use Rattle.cql_journal.specs.Recovery.{Replayed, Misfits, counted}
use Rattle.cql_journal.specs.declared.replaying.Unfit.{Unfit}
use Rattle.cql_journal.specs.declared.recovery.Place.{Place}
use Rattle.cql_journal.specs.declared.recovery.Recovered.{Recovered}
use Rattle.cql_journal.specs.declared.recovery.RecoveryFault.{RecoveryFault}
use Rattle.cql_journal.specs.declared.recovery.RecoveryFault.TheVariants.{OtherFormat, Record, Damaged, Failed, NoMemory, TooMany}

-- the records of batches, in order
abbrev pub all_entries : List (List Entry) → List Entry
all_entries [] = []
all_entries (es ∷ batches) = es ++ all_entries batches

-- behind the first line
abbrev pub IsFirst : Place → Type 0
IsFirst place = (place.chain ≡ first_chain) × (place.count ≡ 0) × (place.bytes ≡ 17)

-- One batch more is taken, and its records are replayed.
pub record TakesBatch (table : List Tenant) (come left : Option (List ℕ)) (old new : State) (from to : Place) : Type 0 where
  pub entries : List Entry
  pub is : IsBatch from.chain entries
  pub consumed : Consumes come left (batch from.chain entries)
  pub chain_is : to.chain ≡ batch_chain from.chain entries
  pub replayed : Replayed table entries old new
  pub count_is : to.count ≡ counted (from.count + length entries)
  pub bytes_are : to.bytes ≡ from.bytes + length (batch from.chain entries)

-- No whole batch stands there, and nothing is taken.
pub record NothingLeft (come left : Option (List ℕ)) (old new : State) (from to : Place) : Type 0 where
  pub kept : Keeps come left
  pub none : IfSome left (λ text. NoBatch from.chain text)
  pub place_is : to ≡ from
  pub state_is : new ≡ old

-- a batch more is taken, or none stands there
abbrev pub Takes : List Tenant → Option (List ℕ) → Option (List ℕ) → State → State → Place → Place → Bool → Type 0
Takes table come left old new from to true = TakesBatch table come left old new from to
Takes table come left old new from to false = NothingLeft come left old new from to

-- Of a whole batch some records are replayed, and the next one leads nowhere.
pub record StopsInBatch (table : List Tenant) (come : Option (List ℕ)) (chain : List ℕ) (old : State) (count at : ℕ) (unfit : Unfit) : Type 0 where
  pub before : List Entry
  pub entry : Entry
  pub after : List Entry
  pub is : IsBatch chain (before ++ entry ∷ after)
  pub left : Option (List ℕ)
  pub starts : Consumes come left (batch chain (before ++ entry ∷ after))
  pub state : State
  pub replayed : Replayed table before old state
  pub misfits : Misfits table state entry unfit
  pub at_is : at ≡ counted (count + length before)

-- Why no batch more is taken. Of memory nothing is said.
abbrev pub StopsIn : List Tenant → Option (List ℕ) → State → Place → Bool → RecoveryFault → Type 0
StopsIn table come old place over OtherFormat = ⊥
StopsIn table come old place over (Record stop) = StopsInBatch table come place.chain old place.count stop.at stop.unfit
StopsIn table come old place over (Damaged bytes) = ⊥
StopsIn table come old place over Failed = over ≡ true
StopsIn table come old place over NoMemory = ⊤
StopsIn table come old place over TooMany = IfSome come (λ text. 2 ^ 64 ≤ place.bytes + length text)

-- The batches so far are taken, and their records are replayed.
pub record Recovering (table : List Tenant) (before come : Option (List ℕ)) (number : ℕ) (state : State) (place : Place) : Type 0 where
  pub batches : List (List Entry)
  pub are : AreBatches first_chain batches
  pub consumed : Consumes before come (written first_chain batches)
  pub chain_is : place.chain ≡ chain_behind first_chain batches
  pub replayed : Replayed table (all_entries batches) (opening table) state
  pub number_is : number ≡ length batches
  pub count_is : place.count ≡ counted (length (all_entries batches))
  pub bytes_are : place.bytes ≡ length (file_of batches)

-- The whole batches that a file begins with, and a rest that may be cut off: it hides none.
abbrev pub IsWhole : List ℕ → List (List Entry) → Type 0
IsWhole text batches = (rest : List ℕ) × IsFile text batches rest × HidesNone rest

-- The state is the machine's, run from the opening of the table over the commands of the records of these batches, each of which changed it in its turn. They are the whole batches of the file, which ends behind them if it is cut off there.
pub record Recovers (table : List Tenant) (file : Option (List ℕ)) (state : State) (r : Recovered) : Type 0 where
  pub batches : List (List Entry)
  pub whole : IfSome file (λ text. IsWhole text batches)
  pub chain_is : r.chain ≡ chain_behind first_chain batches
  pub replayed : Replayed table (all_entries batches) (opening table) state
  pub number_is : r.batches ≡ length batches
  pub count_is : r.count ≡ counted (length (all_entries batches))
  pub bytes_are : r.bytes ≡ length (file_of batches)

-- The file has no whole first line, and nothing was told: the state is that of the table.
pub record Opens (table : List Tenant) (file : Option (List ℕ)) (state : State) (r : Recovered) : Type 0 where
  pub new : IfSome file IsNew
  pub chain_is : r.chain ≡ first_chain
  pub state_is : state ≡ opening table
  pub none : (r.batches ≡ 0) × (r.count ≡ 0) × (r.bytes ≡ 0)

-- The records before this one are replayed, and this one, of a whole batch, leads nowhere.
pub record StopsAt (table : List Tenant) (file : Option (List ℕ)) (at : ℕ) (unfit : Unfit) : Type 0 where
  pub batches : List (List Entry)
  pub are : AreBatches first_chain batches
  pub come : Option (List ℕ)
  pub consumed : Consumes file come (file_of batches)
  pub state : State
  pub replayed : Replayed table (all_entries batches) (opening table) state
  pub count : ℕ
  pub count_is : count ≡ counted (length (all_entries batches))
  pub stops : StopsInBatch table come (chain_behind first_chain batches) state count at unfit

-- A whole batch stands behind something that is none, which stands behind the whole batches of the front.
pub record IsDamaged (bytes : ℕ) (text : List ℕ) : Type 0 where
  pub batches : List (List Entry)
  pub rest : List ℕ
  pub is : IsFile text batches rest
  pub hides : Hides rest
  pub bytes_are : bytes ≡ length (file_of batches)

-- Why nothing is recovered. Of memory nothing is said.
abbrev pub Fails : List Tenant → Option (List ℕ) → Bool → RecoveryFault → Type 0
Fails table file over OtherFormat = IfSome file IsOther
Fails table file over (Record stop) = StopsAt table file stop.at stop.unfit
Fails table file over (Damaged bytes) = IfSome file (IsDamaged bytes)
Fails table file over Failed = over ≡ true
Fails table file over NoMemory = ⊤
Fails table file over TooMany = TooLong file
