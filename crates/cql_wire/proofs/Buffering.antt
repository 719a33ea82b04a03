-- Lemmas on bytes that are buffered before they are written.
use Rattle.std.proofs.Common.{◌≡◌, ℕ, List, [], ◌∷◌, ◌++◌, Option, Result, Ok, Err, OnOk, OnErr, refl, sym, ap, subst, ◌∙◌, append_assoc, append-nil}
use Rattle.std.specs.Io.KnownBytes.{Appends}
use Rattle.std.proofs.KnownBytes.{Appends-nil, Appends-trans}
use Rattle.cql_lines.specs.declared.watched.WriteFault.{WriteFault}
use Rattle.cql_algebra.specs.declared.told.Block.{Block}
use Rattle.cql_core.specs.declared.listing.Listing.{Listing}
use Rattle.cql_core.specs.ReplyModel.{ReplyModel, Blocks, Listed}
use Rattle.cql_wire.specs.Buffered.{Leaves, Buffers, BuffersReply}
use Rattle.cql_wire.specs.Line.{told_line, blocks_line, listing_line}
use Rattle.cql_lines.specs.Watched.{Grows}
use Rattle.cql_lines.proofs.Writing.{Grows-within}

-- what was buffered was written, and then these bytes were
pub buffers_behind : (a b c : Option (List ℕ)) (held bytes left : List ℕ) (r : Result (Unit {0}) WriteFault) → Appends a b held → left ≡ [] → OnOk r (Appends b c bytes) → OnErr r (Grows b c bytes) → Buffers a c (held ++ bytes) left r
buffers_behind a b c held bytes left (Ok u) before none ok err =
    (held ++ bytes, Appends-trans a b c held bytes before ok, sym (append-nil (held ++ bytes)) ∙ ap (λ l. (held ++ bytes) ++ l) (sym none))
buffers_behind a b c held bytes left (Err fault) before none ok err =
    Grows-within a b c held bytes [] (held ++ bytes) before (ap (λ l. held ++ l) (sym (append-nil bytes))) err

-- more bytes go the way of those before them
pub buffers_more : (a b c : Option (List ℕ)) (written held bytes left : List ℕ) (r : Result (Unit {0}) WriteFault) → Leaves a b written held → Buffers b c (held ++ bytes) left r → Buffers a c (written ++ bytes) left r
buffers_more a b c written held bytes left (Ok u) before buffers =
    let (front, first, is) = before in
    let (more, then, both) = buffers in (
      front ++ more,
      Appends-trans a b c front more first then,
      ap (λ l. l ++ bytes) is ∙ append_assoc front held bytes ∙ ap (λ l. front ++ l) both ∙ sym (append_assoc front more left),
    )
buffers_more a b c written held bytes left (Err fault) before buffers =
    let (front, first, is) = before in
    Grows-within a b c front (held ++ bytes) [] (written ++ bytes) first
    (ap (λ l. l ++ bytes) is ∙ append_assoc front held bytes ∙ ap (λ l. front ++ l) (sym (append-nil (held ++ bytes)))) buffers

-- ---- replies

-- the line of what is told was buffered
pub told_as : (a b : Option (List ℕ)) (held : List ℕ) (told model : ReplyModel) (left : List ℕ) (r : Result (Unit {0}) WriteFault) → model ≡ told → Buffers a b (held ++ told_line told) left r → BuffersReply a b held model left r
told_as a b held told model left r is buffers = subst (λ m. BuffersReply a b held m left r) (sym is) buffers

-- the line of blocks was
pub told_blocks : (a b : Option (List ℕ)) (held inside : List ℕ) (blocks shown : List Block) (next end : ℕ) (model : ReplyModel) (left : List ℕ) (r : Result (Unit {0}) WriteFault) → held ≡ inside → shown ≡ blocks → end ≡ next → model ≡ Blocks blocks next
    → Buffers a b (inside ++ blocks_line shown end) left r → BuffersReply a b held model left r
told_blocks a b held inside blocks shown next end model left r same is ends tells buffers =
    told_as a b held (Blocks blocks next) model left r tells
    (subst (λ n. Buffers a b (held ++ blocks_line blocks n) left r) ends (subst (λ l. Buffers a b (held ++ blocks_line l end) left r) is (subst (λ h. Buffers a b (h ++ blocks_line shown end) left r) (sym same) buffers)))

-- the line of a list was
pub told_listing : (a b : Option (List ℕ)) (held inside : List ℕ) (listing : Listing) (model : ReplyModel) (left : List ℕ) (r : Result (Unit {0}) WriteFault) → held ≡ inside → model ≡ Listed listing
    → Buffers a b (inside ++ listing_line listing) left r → BuffersReply a b held model left r
told_listing a b held inside listing model left r same tells buffers =
    told_as a b held (Listed listing) model left r tells (subst (λ h. Buffers a b (h ++ listing_line listing) left r) (sym same) buffers)

-- ---- what is left

pub leaves_nothing : (a : Option (List ℕ)) (held : List ℕ) → Leaves a a held held
leaves_nothing a held = ([], Appends-nil a, refl)

pub leaves_more : (a b c : Option (List ℕ)) (written held left : List ℕ) → Leaves a b written held → Leaves b c held left → Leaves a c written left
leaves_more a b c written held left before then =
    let (front, first, is) = before in
    let (more, second, both) = then in
    (front ++ more, Appends-trans a b c front more first second, is ∙ ap (λ l. front ++ l) both ∙ sym (append_assoc front more left))

-- nothing is left
pub leaves_none : (a b : Option (List ℕ)) (written left : List ℕ) → Leaves a b written left → left ≡ [] → Appends a b written
leaves_none a b written left leaves none =
    let (front, appends, is) = leaves in
    subst (Appends a b) (sym (is ∙ ap (λ l. front ++ l) none ∙ append-nil front)) appends

-- all that was left was written
pub leaves_written : (a b c : Option (List ℕ)) (written held : List ℕ) → Leaves a b written held → Appends b c held → Appends a c written
leaves_written a b c written held leaves appends =
    let (front, first, is) = leaves in
    subst (Appends a c) (sym is) (Appends-trans a b c front held first appends)

-- a write failed within what was left
pub leaves_front : (a b c : Option (List ℕ)) (written held : List ℕ) → Leaves a b written held → Grows b c held → Grows a c written
leaves_front a b c written held leaves grows =
    let (front, first, is) = leaves in
    Grows-within a b c front held [] written first (is ∙ ap (λ l. front ++ l) (sym (append-nil held))) grows

-- all was written
pub leaves_all : (a b : Option (List ℕ)) (held left : List ℕ) → Appends a b held → left ≡ [] → Leaves a b held left
leaves_all a b held left appends none = (held, appends, sym (append-nil held) ∙ ap (λ l. held ++ l) (sym none))

append-tail : (xs ys : List ℕ) → xs ++ ys ≡ [] → ys ≡ []
append-tail [] ys e = e
append-tail (x ∷ xs) ys e = cc

-- what has something left isn't nothing
pub leaves_some : (a b : Option (List ℕ)) (written held : List ℕ) → Leaves a b written held → (held ≡ [] → ⊥) → written ≡ [] → ⊥
leaves_some a b written held leaves some none = let (front, appends, is) = leaves in some (append-tail front held (sym is ∙ none))

-- nothing was buffered before
pub leaves_start : (a : Option (List ℕ)) (held : List ℕ) → held ≡ [] → Leaves a a [] held
leaves_start a held none = ([], Appends-nil a, sym none)
