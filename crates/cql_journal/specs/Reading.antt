-- How whole batches are found at the front of what is read.
use Rattle.cql_journal.specs.declared.record.TheConstants.{COMMIT}
use Rattle.cql_journal.specs.declared.reading.TheConstants.{BLOCK, MAX_BATCH}
use Rattle.std.specs.Prelude.{⊤, ◌≡◌, ◌≢◌, ◌≤◌, ◌<◌, ◌+◌, ℕ, Bool, true, false, List, [], ◌∷◌, ◌++◌, length, Option, IfSome}
use Rattle.std.specs.List.{AllByRecursion}
use Rattle.std.specs.Io.KnownBytes.{Consumes, IsAtEnd, Keeps, prepend_known}
use Rattle.cql_journal.specs.Record.{Entry, Lacks, Fits, chain_after, record_line, record_lines, batch, IsBatch, NoBatch}
use Rattle.cql_journal.specs.declared.reading.Front.{Front}
use Rattle.cql_journal.specs.declared.reading.Next.{Next}
use Rattle.cql_journal.specs.declared.reading.Next.TheVariants.{Record, Commit, Wrong, Part}
use Rattle.cql_journal.specs.declared.recovery.RecoveryFault.{RecoveryFault}
use Rattle.cql_journal.specs.declared.recovery.RecoveryFault.TheVariants.{OtherFormat, Record as unfit, Damaged, Failed, NoMemory, TooMany}

-- Why no more is read, where the reader has failed or not. Of memory nothing is said.
abbrev pub Stops : Bool → RecoveryFault → Type 0
Stops over OtherFormat = ⊥
Stops over (unfit stop) = ⊥
Stops over (Damaged bytes) = ⊥
Stops over Failed = over ≡ true
Stops over NoMemory = ⊤
Stops over TooMany = ⊥

-- a piece that the reader gave was added; or the reader is at its end
pub record Fills (old new : List ℕ) (before after : Option (List ℕ)) (more : Bool) : Type 0 where
  pub piece : List ℕ
  pub grown : new ≡ old ++ piece
  pub consumed : Consumes before after piece
  pub came : more ≡ true → 0 < length piece
  pub at_end : more ≡ false → (piece ≡ []) × IsAtEnd after
  pub bound : length piece ≤ BLOCK

-- so many bytes are there, or all that is to come
pub record Reaches (old : List ℕ) (before : Option (List ℕ)) (new : List ℕ) (after : Option (List ℕ)) (count : ℕ) (reached : Bool) : Type 0 where
  pub kept : Keeps (prepend_known old before) (prepend_known new after)
  pub some : reached ≡ true → count ≤ length new
  pub none : reached ≡ false → IfSome (prepend_known new after) (λ text. (text ≡ new) × (length text < count))

-- what stands behind the records of a batch
abbrev pub Follows : List ℕ → List ℕ → List ℕ → Next → Type 0
Follows chain before rest (Record size) = (e : Entry) × (behind : List ℕ) × Fits e × (rest ≡ record_line chain e ++ 10 ∷ behind) × (size ≡ length (record_line chain e) + 1)
Follows chain before rest Commit = (behind : List ℕ) × (rest ≡ chain_after chain before ++ 10 ∷ behind) × (length before + COMMIT ≤ MAX_BATCH)
Follows chain before rest Wrong = (line : List ℕ) × (behind : List ℕ) × (rest ≡ line ++ 10 ∷ behind) × Lacks 10 line × ((e : Entry) → Fits e → line ≢ record_line chain e) × (line ≡ chain_after chain before → MAX_BATCH < length before + COMMIT)
Follows chain before rest Part = Lacks 10 rest

-- the records of a batch stand at the front, and take so many bytes
pub record StartsRecords (chain : List ℕ) (size : ℕ) (held : List ℕ) : Type 0 where
  pub entries : List Entry
  pub fit : AllByRecursion Fits entries
  pub rest : List ℕ
  pub held_is : held ≡ record_lines chain entries ++ rest
  pub size_is : size ≡ length (record_lines chain entries)

-- a whole batch stands at the front, and its records take so many bytes
pub record StartsBatch (chain : List ℕ) (size : ℕ) (held : List ℕ) : Type 0 where
  pub entries : List Entry
  pub is : IsBatch chain entries
  pub behind : List ℕ
  pub held_is : held ≡ batch chain entries ++ behind
  pub size_is : size ≡ length (record_lines chain entries)

-- What stands at the front: records, which are a whole batch or not. These bytes are held then, and nothing was taken.
pub record Fronts (chain : List ℕ) (come : Option (List ℕ)) (held : List ℕ) (after : Option (List ℕ)) (front : Front) : Type 0 where
  pub kept : Keeps come (prepend_known held after)
  pub records : StartsRecords chain front.size held
  pub batch : front.is_batch ≡ true → StartsBatch chain front.size held
  pub none : front.is_batch ≡ false → IfSome (prepend_known held after) (NoBatch chain)
