-- The law of an input in pieces at one worked by hand: a premise that it doesn't meet is refused here.
use Rattle.std.proofs.Common.{◌≡◌, ℕ, false, List, [], ◌∷◌, refl}
use Rattle.std.proofs.lemmas.List.Elements.{All-cons, All-nil}
use Rattle.std.specs.List.{cons_option}
use Rattle.cql_lines.specs.Text.{whole, is_feed, HasNoFeed, line_found, lines_of}
use Rattle.cql_lines.specs.Pieces.{Piece, part, fed, bytes_of, Taking, PiecesLaw}
use Rattle.cql_lines.proofs.Pieces.{kept_grown}

-- `a`, then `b` and a line feed, then `c`
abbrev pieces : List Piece
pieces = part (97 ∷ []) ∷ fed (98 ∷ []) ∷ part (99 ∷ []) ∷ []

one : (b : ℕ) → is_feed b ≡ false → HasNoFeed (b ∷ [])
one b is = All-cons (λ b. is_feed b ≡ false) b [] is (All-nil (λ b. is_feed b ≡ false))

taking : Taking pieces [] (whole (97 ∷ 98 ∷ []) ∷ []) (99 ∷ [])
taking = (
  97 ∷ [],
  one 97 refl,
  (λ front is. kept_grown front [] (97 ∷ []) is),
  (
    97 ∷ 98 ∷ [],
    [],
    one 98 refl,
    (λ front is. kept_grown front (97 ∷ []) (98 ∷ []) is),
    refl,
    (99 ∷ [], one 99 refl, (λ front is. kept_grown front [] (99 ∷ []) is), (refl, refl)),
  ),
)

pieces_law_at : PiecesLaw → lines_of (bytes_of pieces) ≡ whole (97 ∷ 98 ∷ []) ∷ cons_option (line_found (99 ∷ [])) []
pieces_law_at law = law pieces (whole (97 ∷ 98 ∷ []) ∷ []) (99 ∷ []) taking
