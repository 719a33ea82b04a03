-- Lemmas on bytes that are buffered before they are written.
use Rattle.std.proofs.Common.{◌≡◌, ℕ, ◌+◌, ◌<◌, List, [], ◌++◌, length, Option, arith, sym, ap, ◌∙◌, append_assoc, length-append}
use Rattle.std.specs.Io.KnownBytes.{Appends}
use Rattle.std.proofs.KnownBytes.{Appends-trans}
use Rattle.cql_lines.specs.Watched.{Grows}
use Rattle.cql_lines.proofs.Writing.{Grows-within}
use Rattle.cql_reply.specs.Buffered.{Leaves}

-- what is held was written
pub leaves_written : (a b c : Option (List ℕ)) (all held rest left : List ℕ) → Leaves a b all (held ++ rest) → Appends b c held → left ≡ [] → Leaves a c all (left ++ rest)
leaves_written a b c all held rest left leaves written none =
    let (front, appends, is) = leaves in
    (front ++ held, Appends-trans a b c front held appends written, is ∙ sym (append_assoc front held rest) ∙ ap (λ l. (front ++ held) ++ (l ++ rest)) (sym none))

-- a write failed within what is held
pub leaves_front : (a b c : Option (List ℕ)) (all held rest : List ℕ) → Leaves a b all (held ++ rest) → Grows b c held → Grows a c all
leaves_front a b c all held rest leaves grows =
    let (front, first, is) = leaves in
    Grows-within a b c front held rest all first is grows

-- some of what was left came to what is held
pub leaves_told : (a b : Option (List ℕ)) (all held line now rest : List ℕ) → Leaves a b all (held ++ line) → now ++ rest ≡ held ++ line → Leaves a b all (now ++ rest)
leaves_told a b all held line now rest leaves told =
    let (front, appends, is) = leaves in
    (front, appends, is ∙ ap (λ l. front ++ l) (sym told))

-- what was told was written, and was some
pub shorter : (held line now rest after : List ℕ) → now ++ rest ≡ held ++ line → after ≡ [] → 0 < length now → length after + length rest < length held + length line
shorter held line now rest after told none some =
    let sum : length now + length rest ≡ length held + length line = sym (length-append now rest) ∙ ap length told ∙ length-append held line in
    let no : length after ≡ 0 = ap length none in
    omega arith
