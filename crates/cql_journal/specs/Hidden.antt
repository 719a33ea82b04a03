-- Whole batches that stand behind a front that is none.
use Rattle.cql_journal.specs.declared.record.TheConstants.{CHAIN}
use Rattle.std.specs.Prelude.{⊤, ◌≡◌, ◌≢◌, ◌≤◌, ◌<◌, ◌+◌, ◌-◌, ◌^◌, ◌⊎◌, ℕ, Bool, true, false, List, [], ◌∷◌, ◌++◌, length, take, Option, IfSome, Some}
use Rattle.std.specs.Io.KnownBytes.{Consumes, Keeps, prepend_known}
use Rattle.cql_journal.specs.Record.{Entry, Lacks, Fits, record_line, batch, IsBatch, IsChain}
use Rattle.cql_journal.specs.declared.reading.Front.{Front}
use Rattle.cql_journal.specs.declared.searching.Searched.{Searched}
use Rattle.cql_journal.specs.declared.searching.Searched.TheVariants.{Found, On, Over}
use Rattle.cql_journal.specs.declared.recovery.RecoveryFault.{RecoveryFault}
use Rattle.cql_journal.specs.declared.recovery.RecoveryFault.TheVariants.{OtherFormat, Record as unfit, Damaged, Failed, NoMemory, TooMany}

-- so many bytes have no number
abbrev pub TooLong : Option (List ℕ) → Type 0
TooLong come = IfSome come (λ text. 2 ^ 64 - 1 ≤ length text)

-- Why no more is searched, where the reader has failed or not. Of memory nothing is said.
abbrev pub GivesUp : Option (List ℕ) → Bool → RecoveryFault → Type 0
GivesUp come over OtherFormat = ⊥
GivesUp come over (unfit stop) = ⊥
GivesUp come over (Damaged bytes) = ⊥
GivesUp come over Failed = over ≡ true
GivesUp come over NoMemory = ⊤
GivesUp come over TooMany = TooLong come

-- a line begins behind this
abbrev pub EndsLine : List ℕ → Type 0
EndsLine text = (text ≡ []) ⊎ ((line : List ℕ) × (text ≡ line ++ 10 ∷ []))

-- Somewhere in a text a whole batch begins with a line, has a record, and stands behind some chain.
pub record Hides (text : List ℕ) : Type 0 where
  pub above : List ℕ
  pub chain : List ℕ
  pub first : Entry
  pub others : List Entry
  pub behind : List ℕ
  pub text_is : text ≡ above ++ (batch chain (first ∷ others) ++ behind)
  pub at_line : EndsLine above
  pub is_chain : IsChain chain
  pub is : IsBatch chain (first ∷ others)

-- no record behind this chain stands at the end
abbrev pub Parts : List ℕ → List ℕ → Type 0
Parts chain above = (before : List ℕ) (e : Entry) → EndsLine before → Fits e → above ≢ before ++ (record_line chain e ++ 10 ∷ [])

-- A text hides no batch. One whose records stand behind others of the same chain isn't asked for, since no batch is a part of another.
abbrev pub HidesNone : List ℕ → Type 0
HidesNone text = (h : Hides text) → Parts h.chain h.above → ⊥

-- so many of them begin behind this front
abbrev pub Clears : List ℕ → List ℕ → Type 0
Clears front text = (h : Hides text) → Parts h.chain h.above → length front ≤ length h.above

-- a front is taken in which no batch begins
pub record Searches (come left : Option (List ℕ)) : Type 0 where
  pub front : List ℕ
  pub consumed : Consumes come left front
  pub ends : EndsLine front
  pub some : 0 < length front
  pub clear : IfSome come (Clears front)

-- a line is taken, however long
pub record SkipsLine (come left : Option (List ℕ)) : Type 0 where
  pub line : List ℕ
  pub lacks : Lacks 10 line
  pub consumed : Consumes come left (line ++ 10 ∷ [])

-- the same, or there is no line any more
abbrev pub Skips : Option (List ℕ) → Option (List ℕ) → Bool → Type 0
Skips come left true = SkipsLine come left
Skips come left false = IfSome come (Lacks 10)

-- a part of a line is taken, of so many bytes at least with those that are held
pub record SkipsPart (come left : Option (List ℕ)) (held : List ℕ) (count : ℕ) : Type 0 where
  pub part : List ℕ
  pub lacks : Lacks 10 part
  pub consumed : Consumes come left part
  pub many : count ≤ length part + length held

-- so many bytes at least were searched
pub record Searching (come left : Option (List ℕ)) (count : ℕ) : Type 0 where
  pub front : List ℕ
  pub consumed : Consumes come left front
  pub ends : EndsLine front
  pub clear : IfSome come (Clears front)
  pub many : count ≤ length front

-- what one step of a search tells
abbrev pub Tells : Option (List ℕ) → Option (List ℕ) → Searched → Type 0
Tells come left Found = IfSome come Hides
Tells come left On = Searches come left
Tells come left Over = IfSome come HidesNone

-- whether a text hides a batch
abbrev pub Finds : Option (List ℕ) → Bool → Type 0
Finds come true = IfSome come Hides
Finds come false = IfSome come HidesNone

-- no record of any chain stands at the front
abbrev pub NoFirst : List ℕ → Type 0
NoFirst text = (chain : List ℕ) (e : Entry) (behind : List ℕ) → IsChain chain → text ≢ record_line chain e ++ 10 ∷ behind

-- no batch with a record stands at the front
abbrev pub NoneStarts : List ℕ → Type 0
NoneStarts text = (chain : List ℕ) (first : Entry) (others : List Entry) (behind : List ℕ) → IsChain chain → IsBatch chain (first ∷ others) → text ≢ batch chain (first ∷ others) ++ behind

-- the chain that a front would stand behind
abbrev pub ChainAt : List ℕ → List ℕ → Type 0
ChainAt held chain = (chain ≡ take CHAIN held) × IsChain chain

-- What stands at the front of what is to come, behind whichever chain; these bytes are held of it then.
pub record Sees (come : Option (List ℕ)) (held : List ℕ) (after : Option (List ℕ)) (front : Front) : Type 0 where
  pub kept : Keeps come (prepend_known held after)
  pub other : front.size ≡ 0 → IfSome come NoneStarts
  pub found : 0 < front.size → front.is_batch ≡ true → IfSome come Hides
  pub within : front.size ≤ length held
  pub ends : EndsLine (take front.size held)
  pub clear : front.is_batch ≡ false → IfSome come (Clears (take front.size held))
