-- Batches that are made record by record.
use Rattle.cql_journal.specs.declared.record.TheConstants.{COMMIT}
use Rattle.cql_journal.specs.declared.reading.TheConstants.{MAX_BATCH}
use Rattle.std.specs.Prelude.{⊤, ◌≡◌, ◌≤◌, ◌<◌, ◌-◌, ℕ, List, [], ◌∷◌, ◌++◌, length, take}
use Rattle.std.specs.List.{AllByRecursion}
use Rattle.md5.specs.Md5.{Holds}
use Rattle.md5.specs.declared.Md5.{Md5}
use Rattle.cql_journal.specs.Record.{Entry, Fits, record_lines, committed, batch, batch_chain, IsBatch}
use Rattle.cql_journal.specs.declared.batch.BatchFault.{BatchFault}
use Rattle.cql_journal.specs.declared.batch.BatchFault.TheVariants.{Unfit, TooLong, NoMemory}

-- the chain behind which a batch stands that isn't ended, and its records' lines
pub record Making : Type 0 where
  pub chain : List ℕ
  pub text : List ℕ

-- a text is records that fit, behind a chain, and has room for a commit line
pub record AreRecords (chain text : List ℕ) : Type 0 where
  pub entries : List Entry
  pub fit : AllByRecursion Fits entries
  pub text_is : text ≡ record_lines chain entries
  pub short : length text ≤ MAX_BATCH - COMMIT

-- a hasher has taken in a chain and so many bytes of the text
pub record IsHashed (chain text : List ℕ) (hasher : Md5) (hashed : ℕ) : Type 0 where
  pub within : hashed ≤ length text
  pub holds : Holds hasher (chain ++ take hashed text)

-- A batch is ended: these are its bytes, and the next begins behind its chain.
pub record WritesBatch (old : Making) (text : List ℕ) (new : Making) : Type 0 where
  pub entries : List Entry
  pub is : IsBatch old.chain entries
  pub lines_are : old.text ≡ record_lines old.chain entries
  pub text_is : text ≡ batch old.chain entries
  pub new_is : new ≡ record { chain = batch_chain old.chain entries; text = [] }

-- Why a record joins no batch. Of memory nothing is said.
abbrev pub LeavesOut : Making → Entry → BatchFault → Type 0
LeavesOut old e Unfit = Fits e → ⊥
LeavesOut old e TooLong = MAX_BATCH < length (committed old.chain (old.text ++ record_lines old.chain (e ∷ [])))
LeavesOut old e NoMemory = ⊤
