-- The blocks of any outputs.
use Rattle.std.proofs.Common.{◌≡◌, ℕ, zero, suc, ◌+◌, ◌-◌, ◌≤◌, ◌<◌, ◌==◌, ◌&&◌, List, [], ◌∷◌, ◌++◌, length, true, false, refl, sym, ap, ◌∙◌, subst, arith}
use Rattle.std.specs.Prelude.{if◌then◌else◌}
use Rattle.std.proofs.lemmas.Bool.Decides.{nat_tests}
use Rattle.std.proofs.lemmas.Bool.{and_parts}
use Rattle.std.specs.Ordering.{is_eq}
use Rattle.cql_value.specs.Order.{row_cmp}
use Rattle.cql_value.specs.declared.value.Value.{Value}
use Rattle.cql_algebra.specs.declared.told.Output.{Output}
use Rattle.cql_algebra.specs.declared.told.Output.TheVariants.{Rows, Signed, Fault}
use Rattle.cql_plan.specs.declared.fault.Fault.{Fault as TheFault}
use Rattle.cql_plan.specs.declared.fault.Fault.TheVariants.{Oversize, Overflow}
use Rattle.cql_algebra.specs.declared.told.Block.{Block}
use Rattle.cql_algebra.specs.Output.{tells_no_row, same_rows, same_fault, same_output}
use Rattle.cql_algebra.specs.Blocks.{AreBlocks, with_stretch, extended, blocks_of_many, blocks_of, IsBlocksLaw, IsLocalLaw}
use Rattle.cql_algebra.specs.Runs.{Extends, GoesOn}
use Rattle.cql_algebra.proofs.Blocks.{blocks_from, are_unique}
use Rattle.cql_value.proofs.Ties.{tied, ties_itself}
use Rattle.cql_algebra.proofs.Extend.{extends_empty, extends_last, extends_new}

same_rows-equal : (a b : List (List Value)) → same_rows a b ≡ true → a ≡ b
same_rows-equal [] [] h = refl
same_rows-equal [] (b ∷ bs) h = absurd cc
same_rows-equal (a ∷ as') [] h = absurd cc
same_rows-equal (a ∷ as') (b ∷ bs) h =
    let e = and_parts (is_eq (row_cmp a b)) (same_rows as' bs) h in (λ i. tied a b e.0 i ∷ same_rows-equal as' bs e.1 i)

rows_themselves : (a : List (List Value)) → same_rows a a ≡ true
rows_themselves [] = refl
rows_themselves (a ∷ as') = λ i. ties_itself a i && rows_themselves as' i

fault_same : (f g : TheFault) → same_fault f g ≡ true → f ≡ g
fault_same Oversize Oversize h = refl
fault_same Oversize Overflow h = absurd cc
fault_same Overflow Oversize h = absurd cc
fault_same Overflow Overflow h = refl

fault_itself : (f : TheFault) → same_fault f f ≡ true
fault_itself Oversize = refl
fault_itself Overflow = refl

output_same : (p q : Output) → same_output p q ≡ true → p ≡ q
unfolding same_output
output_same (Rows a) (Rows b) h = ap (λ l. Rows l) (same_rows-equal a b h)
output_same (Rows a) (Signed q n) h = absurd cc
output_same (Rows a) (Fault g) h = absurd cc
output_same (Signed p m) (Rows b) h = absurd cc
output_same (Signed p m) (Signed q n) h =
    let e = and_parts (same_rows p q) (same_rows m n) h in λ i. Signed (same_rows-equal p q e.0 i) (same_rows-equal m n e.1 i)
output_same (Signed p m) (Fault g) h = absurd cc
output_same (Fault f) (Rows b) h = absurd cc
output_same (Fault f) (Signed q n) h = absurd cc
output_same (Fault f) (Fault g) h = ap (λ l. Fault l) (fault_same f g h)

output_itself : (p : Output) → same_output p p ≡ true
unfolding same_output
output_itself (Rows a) = rows_themselves a
output_itself (Signed p m) = λ i. (rows_themselves p i && rows_themselves m i)
output_itself (Fault f) = fault_itself f

nil_is_no_end : (front : List Block) (b : Block) → [] ≡ front ++ b ∷ [] → ⊥
nil_is_no_end [] b e = cc
nil_is_no_end (x ∷ front) b e = cc

one_end : (a b : Block) (front : List Block) → a ∷ [] ≡ front ++ b ∷ [] → a ≡ b
one_end a b [] e = cc
one_end a b (x ∷ front) e = absurd (nil_is_no_end front b (ap rest e))
  where
    rest : List Block → List Block
    rest [] = []
    rest (y ∷ ys) = ys

goes_on_later : (a d : Block) (bs : List Block) (from : ℕ) (o : Output) → GoesOn (a ∷ d ∷ bs) from o → GoesOn (d ∷ bs) from o
goes_on_later a d bs from o ([], b, same, at, is) = absurd (let e : length (a ∷ d ∷ bs) ≡ length (b ∷ []) = ap length same in omega (arith, e))
goes_on_later a d bs from o (x ∷ front, b, same, at, is) = (front, b, cc, at, is)

-- the last block goes on or a block begins
data Joins (new : Block) (bs : List Block) : Type 0 where
  longer : (front : List Block) (b : Block) → bs ≡ front ++ b ∷ [] → b.to + 1 ≡ new.from → b.output ≡ new.output → with_stretch new bs ≡ front ++ record b { to = new.to } ∷ [] → Joins new bs
  more : (GoesOn bs new.from new.output → ⊥) → with_stretch new bs ≡ bs ++ new ∷ [] → Joins new bs

test_holds : (b : Block) (from : ℕ) (o : Output) → b.to + 1 ≡ from → b.output ≡ o → (b.to + 1 == from && same_output b.output o) ≡ true
test_holds b from o at is =
    let t : (b.to + 1 == from) ≡ true = grind (arith, nat_tests) in
    let u : same_output b.output o ≡ true = ap (same_output b.output) (sym is) ∙ output_itself b.output in
    (λ i. t i && u i)

joins : (new : Block) (bs : List Block) → Joins new bs
joins new [] = more (λ (front, b, same, at, is). nil_is_no_end front b same) refl
joins new (b ∷ []) =
    elim (b.to + 1 == new.from && same_output b.output new.output) as (λ t. (b.to + 1 == new.from && same_output b.output new.output) ≡ t → Joins new (b ∷ [])) [
      | true ↦ λ h.
          let e = and_parts (b.to + 1 == new.from) (same_output b.output new.output) h in
          longer [] b refl (let f = e.0 in grind (arith, nat_tests)) (output_same b.output new.output e.1) (ap (λ t. if t then record b { to = new.to } ∷ [] else b ∷ new ∷ []) h)
      | false ↦ λ h.
          more (λ (front, d, same, at, is).
          let e : b ≡ d = one_end b d front same in
          let t = test_holds b new.from new.output (ap (λ x. x.to + 1) e ∙ at) (ap (λ x. x.output) e ∙ is) in
          cc) (ap (λ t. if t then record b { to = new.to } ∷ [] else b ∷ new ∷ []) h)
    ] refl
joins new (b ∷ d ∷ bs) =
    elim (joins new (d ∷ bs)) [
      | longer front x same at is e ↦ longer (b ∷ front) x (ap (λ l. b ∷ l) same) at is (ap (λ l. b ∷ l) e)
      | more ends e ↦ more (λ g. ends (goes_on_later b d bs new.from new.output g)) (ap (λ l. b ∷ l) e)
    ]

joined_extends : (from to : ℕ) (o : Output) (bs : List Block) → from ≤ to → tells_no_row o ≡ false → Extends from to o bs (with_stretch (record { from = from; to = to; output = o }) bs)
joined_extends from to o bs forward told =
    elim (joins (record { from = from; to = to; output = o }) bs) [
      | longer front b same at is e ↦
          subst (λ xs. Extends from to o bs xs) (sym e) (subst (λ xs. Extends from to o xs (front ++ record b { to = to } ∷ [])) (sym same) (extends_last from to o front b forward at is))
      | more ends e ↦ subst (λ xs. Extends from to o bs xs) (sym e) (extends_new from to o bs forward told ends)
    ]

pub extended_extends : (from to : ℕ) (o : Output) (bs : List Block) → from ≤ to → Extends from to o bs (extended from to o bs)
extended_extends from to o bs forward =
    elim (tells_no_row o) as (λ t. tells_no_row o ≡ t → Extends from to o bs (if t then bs else with_stretch (record { from = from; to = to; output = o }) bs)) [
      | true ↦ λ h. extends_empty from to o bs forward h
      | false ↦ λ h. joined_extends from to o bs forward h
    ] refl

no_instants : (O : ℕ → Output) (c l : ℕ) → l ≤ c → AreBlocks O c l []
no_instants O c l none = blocks_from O c l [] (λ t ge lt. absurd (omega arith))

pub many_are : (O : ℕ → Output) (c n : ℕ) → AreBlocks O c (c + n) (blocks_of_many O c n)
unfolding blocks_of_many
many_are O c zero = no_instants O c (c + 0) (omega arith)
many_are O c (suc n) =
    let to : c + n + 1 ≡ c + suc n = omega arith in
    subst (λ l. AreBlocks O c l (extended (c + n) (c + n) (O (c + n)) (blocks_of_many O c n))) to
    (extended_extends (c + n) (c + n) (O (c + n)) (blocks_of_many O c n) (omega arith) O c (omega arith) (λ t ge le. ap O (omega arith)) (many_are O c n))

pub blocks_are : (O : ℕ → Output) (c l : ℕ) → c ≤ l → AreBlocks O c l (blocks_of O c l)
unfolding blocks_of
blocks_are O c l le =
    let to : c + (l - c) ≡ l = omega arith in subst (λ e. AreBlocks O c e (blocks_of_many O c (l - c))) to (many_are O c (l - c))

pub blocks_law : IsBlocksLaw
blocks_law O c l bs le = (
  (λ are. are_unique O c l bs (blocks_of O c l) are (blocks_are O c l le)),
  (λ e. subst (λ xs. AreBlocks O c l xs) (sym e) (blocks_are O c l le)),
)

same_many : (O P : ℕ → Output) (c n : ℕ) → ((t : ℕ) → c ≤ t → t < c + n → O t ≡ P t) → blocks_of_many O c n ≡ blocks_of_many P c n
unfolding blocks_of_many
same_many O P c zero same = refl
same_many O P c (suc n) same =
    λ i. extended (c + n) (c + n) (same (c + n) (omega arith) (omega arith) i) (same_many O P c n (λ t ge lt. same t ge (omega arith)) i)

-- the blocks on an interval are those of the outputs there
pub local_law : IsLocalLaw
unfolding blocks_of
local_law O P c l same = same_many O P c (l - c) (λ t ge lt. same t ge (omega arith))
