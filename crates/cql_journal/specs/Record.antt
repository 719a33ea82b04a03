-- The records of a journal's file. They stand in batches, of which each ends with a commit line.
use Rattle.cql_journal.specs.declared.record.TheConstants.{CHAIN}
use Rattle.cql_journal.specs.declared.reading.TheConstants.{MAX_BATCH}
use Rattle.std.specs.Prelude.{⊤, ◌≡◌, ◌≢◌, ◌≤◌, ℕ, List, [], ◌∷◌, ◌++◌, length, take, codes}
use Rattle.std.specs.List.{AllByRecursion}
use Rattle.md5.specs.Md5.{md5}
use Rattle.hex.specs.Hex.{encode_lower}

-- a tenant's name, and the line that its caller sent
pub record Entry : Type 0 where
  pub tenant : List ℕ
  pub line : List ℕ

-- the byte isn't among these
abbrev pub Lacks : ℕ → List ℕ → Type 0
Lacks b [] = ⊤
Lacks b (x ∷ xs) = (x ≢ b) × Lacks b xs

-- a name has no space, and neither it nor the line has a line feed
pub record Fits (e : Entry) : Type 0 where
  pub spaceless : Lacks 32 e.tenant
  pub feedless : Lacks 10 e.tenant
  pub whole : Lacks 10 e.line

-- 16 bytes and no line feed
pub record IsChain (chain : List ℕ) : Type 0 where
  pub size : length chain ≡ CHAIN
  pub feedless : Lacks 10 chain

-- a record without its chain
abbrev pub body : Entry → List ℕ
body e = e.tenant ++ 32 ∷ e.line

-- The chain before the first batch: the format's number.
abbrev pub first_chain : List ℕ
first_chain = codes "0000000000000001"

-- A file's first line.
abbrev pub heading : List ℕ
heading = codes "0000000000000001\n"

-- The chain of some bytes behind a chain: 16 digits of a digest of both.
unfoldable pub chain_after : List ℕ → List ℕ → List ℕ
chain_after chain bytes = encode_lower (take 8 (md5 (chain ++ bytes)))

-- a record, without its line feed, of a batch behind a chain
abbrev pub record_line : List ℕ → Entry → List ℕ
record_line chain e = chain ++ 32 ∷ body e

-- the records of a batch behind a chain, each with its line feed
abbrev pub record_lines : List ℕ → List Entry → List ℕ
record_lines chain [] = []
record_lines chain (e ∷ es) = record_line chain e ++ 10 ∷ record_lines chain es

-- these bytes, and a commit line, which is their chain
abbrev pub committed : List ℕ → List ℕ → List ℕ
committed chain bytes = bytes ++ (chain_after chain bytes ++ 10 ∷ [])

-- a batch behind a chain, and the chain behind the batch
abbrev pub batch : List ℕ → List Entry → List ℕ
batch chain es = committed chain (record_lines chain es)

abbrev pub batch_chain : List ℕ → List Entry → List ℕ
batch_chain chain es = chain_after chain (record_lines chain es)

-- batches behind a chain, and the chain behind them
abbrev pub written : List ℕ → List (List Entry) → List ℕ
written chain [] = []
written chain (es ∷ batches) = batch chain es ++ written (batch_chain chain es) batches

abbrev pub chain_behind : List ℕ → List (List Entry) → List ℕ
chain_behind chain [] = chain
chain_behind chain (es ∷ batches) = chain_behind (batch_chain chain es) batches

-- a batch has at most 16 MiB, and its entries fit
pub record IsBatch (chain : List ℕ) (es : List Entry) : Type 0 where
  pub fit : AllByRecursion Fits es
  pub short : length (batch chain es) ≤ MAX_BATCH

-- batches that are so, one behind the other
abbrev pub AreBatches : List ℕ → List (List Entry) → Type 0
AreBatches chain [] = ⊤
AreBatches chain (es ∷ batches) = IsBatch chain es × AreBatches (batch_chain chain es) batches

-- no whole batch stands at the front of a text
abbrev pub NoBatch : List ℕ → List ℕ → Type 0
NoBatch chain text = (es : List Entry) (more : List ℕ) → IsBatch chain es → text ≢ batch chain es ++ more
