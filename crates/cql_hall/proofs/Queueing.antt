-- Lines behind each other in one text, and the calls that they are of.
use Rattle.std.proofs.Common.{◌≡◌, ◌≤◌, ◌-◌, ◌++◌, ◌∷◌, [], ℕ, List, suc, refl, arith, ap, sym, ◌∙◌, subst, length, take, drop, sum_by}
use Rattle.std.proofs.lemmas.List.{take-append-le, take-append-drop, drop-append-le, length-drop, length-take-le, length-append, nil_from_length}
use Rattle.std.proofs.lemmas.List.Sums.{sum_by-cons, sum_by_push}
use Rattle.std.proofs.Math.Seq.{take-length, take-append_seam}
use Rattle.cql_hall.specs.declared.filings.FiledLine.{FiledLine}
use Rattle.cql_hall.specs.Queue.{Queued, calls_in, AreOf}

pub calls_count : (pieces : List FiledLine) (text : List ℕ) → length (calls_in pieces text) ≡ length pieces
calls_count [] text = refl
calls_count (piece ∷ pieces) text = ap suc (calls_count pieces (drop piece.len text))

-- Without the first piece, what is left of the text is the others'.
pub are_rest : (piece : FiledLine) (pieces : List FiledLine) (text : List ℕ) → AreOf (piece ∷ pieces) text → AreOf pieces (drop piece.len text)
are_rest piece pieces text are =
    let len = length-drop piece.len text in
    let sum = sum_by-cons (λ (p : FiledLine). p.len) piece pieces in
    omega (arith, are, len, sum)

-- Their lines are the whole text.
pub calls_bytes : (pieces : List FiledLine) (text : List ℕ) → AreOf pieces text → sum_by (λ (call : Queued). length call.line) (calls_in pieces text) ≡ length text
calls_bytes [] text are = are
calls_bytes (piece ∷ pieces) text are =
    let sum = sum_by-cons (λ (p : FiledLine). p.len) piece pieces in
    let line = length-take-le piece.len text (omega (arith, are, sum)) in
    let rest = calls_bytes pieces (drop piece.len text) (are_rest piece pieces text are) in
    let len = length-drop piece.len text in
    let first : Queued = record { tenant = piece.tenant; line = take piece.len text } in
    let all = sum_by-cons (λ (call : Queued). length call.line) first (calls_in pieces (drop piece.len text)) in
    omega (arith, are, sum, line, rest, len, all)

-- A piece more behind a text.
pub calls_push : (pieces : List FiledLine) (text : List ℕ) (piece : FiledLine) (line : List ℕ) → AreOf pieces text → piece.len ≡ length line →
    calls_in (pieces ++ piece ∷ []) (text ++ line) ≡ calls_in pieces text ++ record { tenant = piece.tenant; line = line } ∷ []
calls_push [] text piece line are is =
    let none : text ≡ [] = nil_from_length text (sym are) in
    subst (λ t. calls_in (piece ∷ []) (t ++ line) ≡ record { tenant = piece.tenant; line = line } ∷ []) (sym none)
    (ap (λ l. record { tenant = piece.tenant; line = l } ∷ []) (subst (λ n. take n line ≡ line) (sym is) (take-length line)))
calls_push (first ∷ pieces) text piece line are is =
    let within : first.len ≤ length text = let sum = sum_by-cons (λ (p : FiledLine). p.len) first pieces in omega (arith, are, sum) in
    let rest = calls_push pieces (drop first.len text) piece line (are_rest first pieces text are) is in
    let cut : take first.len (text ++ line) ≡ take first.len text = take-append-le first.len text line within in
    let left : drop first.len (text ++ line) ≡ drop first.len text ++ line = drop-append-le first.len text line within in
    ap (λ l. record { tenant = first.tenant; line = l } ∷ calls_in (pieces ++ piece ∷ []) (drop first.len (text ++ line))) cut
    ∙ ap (λ t. record { tenant = first.tenant; line = take first.len text } ∷ calls_in (pieces ++ piece ∷ []) t) left
    ∙ ap (λ calls. record { tenant = first.tenant; line = take first.len text } ∷ calls) rest

-- The last piece's line taken from the text's end.
pub within_last : (pieces : List FiledLine) (text : List ℕ) (piece : FiledLine) → AreOf (pieces ++ piece ∷ []) text → piece.len ≤ length text
within_last pieces text piece are =
    let more = sum_by_push (λ (p : FiledLine). p.len) pieces piece in
    omega (arith, are, more)

pub are_pop : (pieces : List FiledLine) (text : List ℕ) (piece : FiledLine) → AreOf (pieces ++ piece ∷ []) text → AreOf pieces (take (length text - piece.len) text)
are_pop pieces text piece are =
    let more = sum_by_push (λ (p : FiledLine). p.len) pieces piece in
    let len = length-take-le (length text - piece.len) text (omega arith) in
    omega (arith, are, more, len)

pub calls_pop : (pieces : List FiledLine) (text : List ℕ) (piece : FiledLine) → AreOf (pieces ++ piece ∷ []) text →
    calls_in pieces (take (length text - piece.len) text) ≡ take (length (calls_in (pieces ++ piece ∷ []) text) - 1) (calls_in (pieces ++ piece ∷ []) text)
calls_pop pieces text piece are =
    let at = length text - piece.len in
    let within = within_last pieces text piece are in
    let front = take at text in
    let line = drop at text in
    let is : piece.len ≡ length line = let len = length-drop at text in omega (arith, len, within) in
    let calls = calls_in pieces front in
    let last : Queued = record { tenant = piece.tenant; line = line } in
    let all : calls_in (pieces ++ piece ∷ []) text ≡ calls ++ last ∷ [] =
    ap (calls_in (pieces ++ piece ∷ [])) (sym (take-append-drop at text)) ∙ calls_push pieces front piece line (are_pop pieces text piece are) is in
    let count : length (calls ++ last ∷ []) - 1 ≡ length calls = let n = length-append calls (last ∷ []) in omega (arith, n) in
    sym (ap (λ l. take (length l - 1) l) all ∙ ap (λ n. take n (calls ++ last ∷ [])) count ∙ take-append_seam calls (last ∷ []))
