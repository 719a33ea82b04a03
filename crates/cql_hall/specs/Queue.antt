-- Calls that are queued for a journal's file, in order; their lines stand behind each other in one text.
use Rattle.std.specs.Prelude.{◌≡◌, ℕ, List, [], ◌∷◌, take, drop, length, sum_by}
use Rattle.cql_hall.specs.declared.filings.Filing.{Filing}
use Rattle.cql_hall.specs.declared.filings.FiledLine.{FiledLine}

-- a call: whose it is, and its line
pub record Queued : Type 0 where
  pub tenant : ℕ
  pub line : List ℕ

abbrev pub queued : Filing → Queued
queued call = record { tenant = call.tenant; line = call.line.now }

-- the calls whose lines a text is cut into, the first of which has its front
abbrev pub calls_in : List FiledLine → List ℕ → List Queued
calls_in [] text = []
calls_in (piece ∷ pieces) text = record { tenant = piece.tenant; line = take piece.len text } ∷ calls_in pieces (drop piece.len text)

-- they are a whole text's
abbrev pub AreOf : List FiledLine → List ℕ → Type 0
AreOf pieces text = sum_by (λ (piece : FiledLine). piece.len) pieces ≡ length text
