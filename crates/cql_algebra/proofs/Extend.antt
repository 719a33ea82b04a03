-- One stretch more.
use Rattle.std.proofs.Common.{◌≡◌, ◌≢◌, ℕ, ◌+◌, ◌-◌, ◌≤◌, ◌<◌, List, [], ◌∷◌, ◌++◌, length, get_or, set, length-append, true, false, inl, inr, refl, sym, ap, ◌∙◌, subst, arith}
use Rattle.std.proofs.lemmas.List.{set_at}
use Rattle.std.proofs.lemmas.Bool.{cases_lt}
use Rattle.cql_algebra.specs.declared.told.Output.{Output}
use Rattle.cql_algebra.specs.declared.told.Block.{Block}
use Rattle.cql_algebra.specs.Output.{tells_no_row}
use Rattle.cql_algebra.specs.Runs.{IsStretch, Extends, GoesOn, Adjoins}
use Rattle.cql_algebra.specs.Blocks.{AreBlocks}
use Rattle.cql_algebra.proofs.Blocks.{Follow, differ, follow_from, blocks_from}

module _ (O : ℕ → Output) (m e : ℕ) (o : Output) (forward : m ≤ e) (stretch : IsStretch O m e o) where
  below : (c : ℕ) (b : Block) (bs : List Block) → Follow O c m (b ∷ bs) → c < m
  below c b bs follow =
      let start : c ≤ b.from = follow.0.0 in
      let some : b.from ≤ b.to = follow.0.1 in
      let end : b.to < m = follow.0.2 in
      omega arith

  below_front : (c : ℕ) (front : List Block) (b : Block) → Follow O c m (front ++ b ∷ []) → c < m
  below_front c [] b follow = below c b [] follow
  below_front c (x ∷ front) b follow = below c x (front ++ b ∷ []) follow

  -- the instant after a block's end, where the block doesn't go on
  next_differs : (b : Block) → b.to < m → (b.to + 1 < m → O (b.to + 1) ≢ b.output) → (b.to + 1 ≡ m → b.output ≢ o) → O (b.to + 1) ≢ b.output
  next_differs b end after last is =
      elim (cases_lt (b.to + 1) m) [
        | inl lt ↦ after lt is
        | inr ge ↦ let at : b.to + 1 ≡ m = omega arith in last at (sym is ∙ ap O at ∙ stretch m (omega arith) forward)
      ]

  skip : (c : ℕ) (bs : List Block) → tells_no_row o ≡ true → Follow O c m bs → Follow O c (e + 1) bs
  skip c [] empty follow =
      λ t ge lt. elim (cases_lt t m) [ inl lt' ↦ follow t ge lt' | inr ge' ↦ ap tells_no_row (stretch t ge' (omega arith)) ∙ empty ]
  skip c (b ∷ bs) empty follow =
      let end : b.to < m = follow.0.2 in (
        (follow.0.0, follow.0.1, omega arith, follow.0.3),
        follow.1,
        follow.2,
        (λ lt. next_differs b end follow.3 (λ at is. differ O o b.output empty follow.0.3 (sym is))),
        skip (b.to + 1) bs empty follow.4,
      )

  grow : (c : ℕ) (front : List Block) (b : Block) → b.to + 1 ≡ m → b.output ≡ o → Follow O c m (front ++ b ∷ []) → Follow O c (e + 1) (front ++ record b { to = e } ∷ [])
  grow c [] b at is follow =
      let some : b.from ≤ b.to = follow.0.1 in (
        (follow.0.0, omega arith, omega arith, follow.0.3),
        follow.1,
        (λ t ge le. elim (cases_lt t m) [ inl lt ↦ follow.2 t ge (omega arith) | inr ge' ↦ stretch t ge' le ∙ sym is ]),
        (λ lt. absurd (omega arith)),
        (λ t ge lt. absurd (omega arith)),
      )
  grow c (x ∷ front) b at is follow =
      let end : x.to < m = follow.0.2 in
      let more : x.to + 1 < m = below_front (x.to + 1) front b follow.4 in
      ((follow.0.0, follow.0.1, omega arith, follow.0.3), follow.1, follow.2, (λ lt. follow.3 more), grow (x.to + 1) front b at is follow.4)

  add : (c : ℕ) (bs : List Block) → c ≤ m → tells_no_row o ≡ false → ((front : List Block) (b : Block) → bs ≡ front ++ b ∷ [] → b.to + 1 ≡ m → b.output ≢ o) → Follow O c m bs → Follow O c (e + 1) (bs ++ record { from = m; to = e; output = o } ∷ [])
  add c [] le told ends follow =
      ((le, forward, omega arith, told), follow, stretch, (λ lt. absurd (omega arith)), (λ t ge lt. absurd (omega arith)))
  add c (b ∷ bs) le told ends follow =
      let end : b.to < m = follow.0.2 in (
        (follow.0.0, follow.0.1, omega arith, follow.0.3),
        follow.1,
        follow.2,
        (λ lt. after_last b bs (λ front d same. ends front d same) follow.4 end follow.3),
        add (b.to + 1) bs (omega arith) told (λ front d same. ends (b ∷ front) d (ap (λ l. b ∷ l) same)) follow.4,
      )
    where
      after_last : (b : Block) (bs : List Block) → ((front : List Block) (d : Block) → b ∷ bs ≡ front ++ d ∷ [] → d.to + 1 ≡ m → d.output ≢ o) → Follow O (b.to + 1) m bs → b.to < m → (b.to + 1 < m → O (b.to + 1) ≢ b.output) → O (b.to + 1) ≢ b.output
      after_last b [] ends follow end after = next_differs b end after (ends [] b refl)
      after_last b (d ∷ ds) ends follow end after = after (below (b.to + 1) d ds follow)

-- nothing is told on the stretch
pub extends_empty : (from to : ℕ) (o : Output) (bs : List Block) → from ≤ to → tells_no_row o ≡ true → Extends from to o bs bs
extends_empty from to o bs forward empty O c le stretch are =
    blocks_from O c (to + 1) bs (skip O from to o forward stretch c bs empty (follow_from O c from bs are))

-- the last block goes on
pub extends_last : (from to : ℕ) (o : Output) (front : List Block) (b : Block) → from ≤ to → b.to + 1 ≡ from → b.output ≡ o → Extends from to o (front ++ b ∷ []) (front ++ record b { to = to } ∷ [])
extends_last from to o front b forward at is O c le stretch are =
    blocks_from O c (to + 1) _ (grow O from to o forward stretch c front b at is (follow_from O c from _ are))

-- a block begins
pub extends_new : (from to : ℕ) (o : Output) (bs : List Block) → from ≤ to → tells_no_row o ≡ false → (GoesOn bs from o → ⊥) → Extends from to o bs (bs ++ record { from = from; to = to; output = o } ∷ [])
extends_new from to o bs forward told ends O c le stretch are =
    blocks_from O c (to + 1) _ (add O from to o forward stretch c bs le told (λ front b same at is. ends (front, b, same, at, is)) (follow_from O c from bs are))

last_at : (front : List Block) (b d : Block) → get_or (front ++ b ∷ []) (length front) d ≡ b
last_at [] b d = refl
last_at (x ∷ front) b d = last_at front b d

-- the same of the last block
extends_at : (from to : ℕ) (o : Output) (bs : List Block) (n : ℕ) (l : Block) (front : List Block) (b : Block) → bs ≡ front ++ b ∷ [] → from ≤ to → b.to + 1 ≡ from → b.output ≡ o → n ≡ length front → l ≡ get_or bs n l → Extends from to o bs (set bs n (record { from = l.from; to = to; output = l.output }))
extends_at from to o bs n l front b same forward at is at_end read =
    let last : l ≡ b = read ∙ (λ i. get_or (same i) (at_end i) l) ∙ last_at front b l in
    subst (λ xs. Extends from to o bs xs) (sym ((λ i. set (same i) n (record { from = (last i).from; to = to; output = (last i).output })) ∙ set_at front b [] (record b { to = to }) n (sym at_end)))
    (subst (λ xs. Extends from to o xs (front ++ record b { to = to } ∷ [])) (sym same) (extends_last from to o front b forward at is))

pub extends_set : (from to : ℕ) (o : Output) (bs : List Block) (n : ℕ) (l : Block) → from ≤ to → GoesOn bs from o → n ≡ length bs → l ≡ get_or bs (n - 1) l → Extends from to o bs (set bs (n - 1) (record { from = l.from; to = to; output = l.output }))
extends_set from to o bs n l forward (front, b, same, at, is) len read =
    let at_end : n - 1 ≡ length front = omega (arith, len, ap length same, length-append front (b ∷ [])) in extends_at from to o bs (n - 1) l front b same forward at is at_end read

-- ---- the output of the instant before

-- it is that of the block that ends there
ends_with : (O : ℕ → Output) (c m : ℕ) (front : List Block) (b : Block) → b.to + 1 ≡ m → Follow O c m (front ++ b ∷ []) → b.output ≡ O (m - 1)
ends_with O c m [] b at follow =
    let some : b.from ≤ b.to = follow.0.1 in
    let last : b.to ≡ m - 1 = omega arith in
    sym (follow.2 b.to some (omega arith)) ∙ ap O last
ends_with O c m (x ∷ front) b at follow = ends_with O (x.to + 1) m front b at follow.4

-- where none ends there it is empty
ends_without : (O : ℕ → Output) (c m : ℕ) (bs : List Block) → c < m → (Adjoins bs m → ⊥) → Follow O c m bs → tells_no_row (O (m - 1)) ≡ true
ends_without O c m [] lt ends follow = follow (m - 1) (omega arith) (omega arith)
ends_without O c m (b ∷ []) lt ends follow =
    let end : b.to < m = follow.0.2 in
    elim (cases_lt (b.to + 1) m) [
      | inl more ↦ follow.4 (m - 1) (omega arith) (omega arith)
      | inr done ↦ absurd (ends ([], b, refl, omega arith))
    ]
ends_without O c m (b ∷ d ∷ bs) lt ends follow =
    let start : b.to + 1 ≤ d.from = follow.4.0.0 in
    let some : d.from ≤ d.to = follow.4.0.1 in
    let end : d.to < m = follow.4.0.2 in
    ends_without O (b.to + 1) m (d ∷ bs) (omega arith) (λ a. ends (b ∷ a.0, a.1, ap (λ l. b ∷ l) a.2, a.3)) follow.4

-- the last block goes on
pub goes_on_set : (from to : ℕ) (bs : List Block) (n : ℕ) (l : Block) → from ≤ to → Adjoins bs from → n ≡ length bs → l ≡ get_or bs (n - 1) l → (O : ℕ → Output) (c : ℕ) → c < from → IsStretch O from to (O (from - 1)) → AreBlocks O c from bs → AreBlocks O c (to + 1) (set bs (n - 1) (record { from = l.from; to = to; output = l.output }))
goes_on_set from to bs n l forward (front, b, same, at) len read O c lt stretch are =
    let follow : Follow O c from (front ++ b ∷ []) = subst (Follow O c from) same (follow_from O c from bs are) in
    extends_set from to (O (from - 1)) bs n l forward (front, b, same, at, ends_with O c from front b at follow) len read O c (omega arith) stretch are

-- nothing is told
pub goes_on_empty : (from to : ℕ) (bs : List Block) → from ≤ to → (Adjoins bs from → ⊥) → (O : ℕ → Output) (c : ℕ) → c < from → IsStretch O from to (O (from - 1)) → AreBlocks O c from bs → AreBlocks O c (to + 1) bs
goes_on_empty from to bs forward ends O c lt stretch are =
    extends_empty from to (O (from - 1)) bs forward (ends_without O c from bs lt ends (follow_from O c from bs are)) O c (omega arith) stretch are
