-- What whole batches a text begins with.
use Rattle.std.specs.Prelude.{⊤, ◌≡◌, ◌<◌, ℕ, List, [], ◌∷◌, ◌++◌, length}
use Rattle.cql_journal.specs.Record.{Entry, first_chain, heading, batch, batch_chain, written, chain_behind, IsBatch, AreBatches, NoBatch}

-- Behind a chain a text is these batches and a rest, in whose front no whole batch stands.
pub record Splits (chain text : List ℕ) (batches : List (List Entry)) (rest : List ℕ) : Type 0 where
  pub text_is : text ≡ written chain batches ++ rest
  pub are : AreBatches chain batches
  pub none : NoBatch (chain_behind chain batches) rest

-- a journal's file of these batches
abbrev pub file_of : List (List Entry) → List ℕ
file_of batches = heading ++ written first_chain batches

-- The batches of a text, its heading and a rest.
abbrev pub IsFile : List ℕ → List (List Entry) → List ℕ → Type 0
IsFile text batches rest = (behind : List ℕ) × (text ≡ heading ++ behind) × Splits first_chain behind batches rest

-- A text has one list of batches and one rest.
abbrev pub IsOneReadingLaw : Type 0
IsOneReadingLaw = (text rest other_rest : List ℕ) (batches others : List (List Entry)) → IsFile text batches rest → IsFile text others other_rest → (batches ≡ others) × (rest ≡ other_rest)

-- What is read of what was written are its batches.
abbrev pub IsRoundTripLaw : Type 0
IsRoundTripLaw = (batches : List (List Entry)) → AreBatches first_chain batches → IsFile (file_of batches) batches []

-- A batch behind the whole batches of a file makes a file of them and this one, and nothing is left.
abbrev pub IsAppendLaw : Type 0
IsAppendLaw = (batches : List (List Entry)) (es : List Entry) → AreBatches first_chain batches → IsBatch (chain_behind first_chain batches) es
    → IsFile (file_of batches ++ batch (chain_behind first_chain batches) es) (batches ++ es ∷ []) [] × (chain_behind first_chain (batches ++ es ∷ []) ≡ batch_chain (chain_behind first_chain batches) es)

-- the front's length is less than with the next batch too, where there is one
abbrev pub EndsBefore : List ℕ → List (List Entry) → List ℕ → Type 0
EndsBefore chain [] rest = ⊤
EndsBefore chain (next ∷ more) rest = length rest < length (batch chain next)

-- What is read of any front of a file that has its heading are the batches that are whole in it: the file begins with them, and the next one would end behind the front.
abbrev pub IsFrontLaw : Type 0
IsFrontLaw = (front behind rest : List ℕ) (batches found : List (List Entry)) → AreBatches first_chain batches → file_of batches ≡ front ++ behind → IsFile front found rest
    → (lost : List (List Entry)) × (batches ≡ found ++ lost) × EndsBefore (chain_behind first_chain found) lost rest
