-- Blocks, one after another.
use Rattle.std.proofs.Common.{◌≡◌, ◌≢◌, ℕ, ◌+◌, ◌≤◌, ◌<◌, List, [], ◌∷◌, Bool, true, false, refl, sym, ap, ◌∙◌, subst, arith}
use Rattle.std.proofs.Common.{inl, inr}
use Rattle.std.specs.List.{AllByRecursion}
use Rattle.std.proofs.lemmas.Bool.{cases_lt}
use Rattle.cql_algebra.specs.declared.told.Output.{Output}
use Rattle.cql_algebra.specs.declared.told.Block.{Block}
use Rattle.cql_algebra.specs.Output.{tells_no_row}
use Rattle.cql_algebra.specs.Blocks.{IsMaximalRun, IsTold, AreBlocks, AreUnique}

-- from c on: nothing is told before the first block, which ends where its output does; then from its end on
abbrev pub Follow : (ℕ → Output) → ℕ → ℕ → List Block → Type 0
Follow O c l [] = (t : ℕ) → c ≤ t → t < l → tells_no_row (O t) ≡ true
Follow O c l (b ∷ bs) =
    ((c ≤ b.from) × (b.from ≤ b.to) × (b.to < l) × (tells_no_row b.output ≡ false))
    × ((t : ℕ) → c ≤ t → t < b.from → tells_no_row (O t) ≡ true)
    × ((t : ℕ) → b.from ≤ t → t ≤ b.to → O t ≡ b.output)
    × (b.to + 1 < l → O (b.to + 1) ≢ b.output)
    × Follow O (b.to + 1) l bs

module _ (O : ℕ → Output) where
  -- what is empty isn't told
  pub differ : (p q : Output) → tells_no_row p ≡ true → tells_no_row q ≡ false → p ≢ q
  differ p q a b e = let h : tells_no_row p ≡ tells_no_row q = ap tells_no_row e in cc

  later_blocks : (c l e : ℕ) (bs : List Block) → c ≤ e → AllByRecursion (λ d. e < d.from) bs → AllByRecursion (IsMaximalRun O c l) bs → AllByRecursion (IsMaximalRun O (e + 1) l) bs
  later_blocks c l e [] le order runs = tt
  later_blocks c l e (d ∷ bs) le order runs = (
    record { start = omega (arith, order.0); forward = runs.0.forward; end = runs.0.end; some = runs.0.some; same = runs.0.same; before = λ t ge eq. runs.0.before t (omega arith) eq; after = runs.0.after },
    later_blocks c l e bs le order.1 runs.1,
  )

  none_before : (e t : ℕ) (bs : List Block) → AllByRecursion (λ d. e < d.from) bs → t ≤ e → IsTold t bs → ⊥
  none_before e t [] order le told = told
  none_before e t (d ∷ bs) order le (inl h) = absurd (omega (arith, order.0, h.0))
  none_before e t (d ∷ bs) order le (inr h) = none_before e t bs order.1 le h

  not_false : (b : Bool) → (b ≡ false → ⊥) → b ≡ true
  not_false true h = refl
  not_false false h = absurd (h refl)

  told_after : (t : ℕ) (b : Block) (bs : List Block) → b.to < t → IsTold t (b ∷ bs) → IsTold t bs
  told_after t b bs lt (inl h) = absurd (omega (arith, h.1))
  told_after t b bs lt (inr h) = h

  told_before : (t : ℕ) (b : Block) (bs : List Block) → b.from ≤ b.to → t < b.from → AllByRecursion (λ d. b.to < d.from) bs → IsTold t (b ∷ bs) → ⊥
  told_before t b bs le lt order (inl h) = omega (arith, h.0)
  told_before t b bs le lt order (inr h) = none_before b.to t bs order (omega arith) h

  pub follow_from : (c l : ℕ) (bs : List Block) → AreBlocks O c l bs → Follow O c l bs
  follow_from c l [] are = λ t ge lt. not_false (tells_no_row (O t)) (λ h. are.all_told t ge lt h)
  follow_from c l (b ∷ bs) are =
      let run = are.runs.0 in
      let start : c ≤ b.from = run.start in
      let forward : b.from ≤ b.to = run.forward in (
        (run.start, run.forward, run.end, run.some),
        (λ t ge lt. not_false (tells_no_row (O t)) (λ h. told_before t b bs run.forward lt are.in_order.0 (are.all_told t ge (omega (arith, run.end)) h))),
        run.same,
        run.after,
        follow_from (b.to + 1) l bs (record {
          runs = later_blocks c l b.to bs (omega arith) are.in_order.0 are.runs.1;
          in_order = are.in_order.1;
          all_told = λ t ge lt h. told_after t b bs (omega arith) (are.all_told t (omega arith) lt h);
        }),
      )

  after_all : (c l e : ℕ) (bs : List Block) → e < c → Follow O c l bs → AllByRecursion (λ d. e < d.from) bs
  after_all c l e [] lt follow = tt
  after_all c l e (d ∷ bs) lt follow =
      let le : c ≤ d.from = follow.0.0 in
      let forward : d.from ≤ d.to = follow.0.1 in
      (omega arith, after_all (d.to + 1) l e bs (omega arith) follow.4)

  -- the instant before a run that begins at c has another output, then a run from c on is one from c' on
  earlier_blocks : (c' c l : ℕ) (bs : List Block) → c' ≤ c → ((t : ℕ) (d : Block) → c' ≤ t → t < c → t + 1 ≡ d.from → c ≤ d.from → IsMaximalRun O c l d → O t ≢ d.output) → AllByRecursion (IsMaximalRun O c l) bs → AllByRecursion (IsMaximalRun O c' l) bs
  earlier_blocks c' c l [] le other runs = tt
  earlier_blocks c' c l (d ∷ bs) le other runs = (
    record {
      start = omega (arith, runs.0.start);
      forward = runs.0.forward;
      end = runs.0.end;
      some = runs.0.some;
      same = runs.0.same;
      before = λ t ge eq. elim (cases_lt t c) [ inl lt ↦ other t d ge lt eq runs.0.start runs.0 | inr le' ↦ runs.0.before t le' eq ];
      after = runs.0.after;
    },
    earlier_blocks c' c l bs le other runs.1,
  )

  pub blocks_from : (c l : ℕ) (bs : List Block) → Follow O c l bs → AreBlocks O c l bs
  blocks_from c l [] follow = record { runs = tt; in_order = tt; all_told = λ t ge lt h. absurd (let e = follow t ge lt in cc) }
  blocks_from c l (b ∷ bs) follow =
      let start : c ≤ b.from = follow.0.0 in
      let forward : b.from ≤ b.to = follow.0.1 in
      let rest : AreBlocks O (b.to + 1) l bs = blocks_from (b.to + 1) l bs follow.4 in
      record {
        runs = (
          record {
            start = follow.0.0;
            forward = follow.0.1;
            end = follow.0.2;
            some = follow.0.3;
            same = follow.2;
            before = λ t ge eq. differ (O t) b.output (follow.1 t ge (omega arith)) follow.0.3;
            after = follow.3;
          },
          earlier_blocks c (b.to + 1) l bs (omega arith) (λ t d ge lt eq from run e.
              let f : d.from ≤ d.to = run.forward in
              let n : d.to < l = run.end in
              let at : d.from ≡ b.to + 1 = omega arith in
              let is : t ≡ b.to = omega arith in
              let first : O d.from ≡ d.output = run.same d.from (omega arith) run.forward in
              let last : O t ≡ b.output = follow.2 t (omega arith) (omega arith) in
              follow.3 (omega arith) (sym (ap O at) ∙ first ∙ sym e ∙ last)) rest.runs,
        );
        in_order = (after_all (b.to + 1) l b.to bs (omega arith) follow.4, rest.in_order);
        all_told = λ t ge lt h. elim (cases_lt t b.from) [
          | inl lt' ↦ absurd (let e = follow.1 t ge lt' in cc)
          | inr ge' ↦ elim (cases_lt b.to t) [ inl lt' ↦ inr (rest.all_told t (omega arith) lt h) | inr le' ↦ inl (ge', le') ]
        ];
      }

  same_from : (c l : ℕ) (b d : Block) (bs ds : List Block) → Follow O c l (b ∷ bs) → Follow O c l (d ∷ ds) → b.from ≡ d.from
  same_from c l b d bs ds f g =
      let b_forward : b.from ≤ b.to = f.0.1 in
      let d_forward : d.from ≤ d.to = g.0.1 in
      elim (cases_lt b.from d.from) [
        | inl lt ↦ absurd (differ (O b.from) b.output (g.1 b.from f.0.0 lt) f.0.3 (f.2 b.from (omega arith) f.0.1))
        | inr ge ↦ elim (cases_lt d.from b.from) [
          | inl lt ↦ absurd (differ (O d.from) d.output (f.1 d.from g.0.0 lt) g.0.3 (g.2 d.from (omega arith) g.0.1))
          | inr le ↦ omega arith
        ]
      ]

  same_to : (c l : ℕ) (b d : Block) (bs ds : List Block) → Follow O c l (b ∷ bs) → Follow O c l (d ∷ ds) → b.from ≡ d.from → b.output ≡ d.output → b.to ≡ d.to
  same_to c l b d bs ds f g from output =
      let b_forward : b.from ≤ b.to = f.0.1 in
      let d_forward : d.from ≤ d.to = g.0.1 in
      let b_end : b.to < l = f.0.2 in
      let d_end : d.to < l = g.0.2 in
      elim (cases_lt b.to d.to) [
        | inl lt ↦ absurd (f.3 (omega arith) (g.2 (b.to + 1) (omega arith) (omega arith) ∙ sym output))
        | inr ge ↦ elim (cases_lt d.to b.to) [
          | inl lt ↦ absurd (g.3 (omega arith) (f.2 (d.to + 1) (omega arith) (omega arith) ∙ output))
          | inr le ↦ omega arith
        ]
      ]

  -- two lists that follow are one
  follow_one : (c l : ℕ) (bs ds : List Block) → Follow O c l bs → Follow O c l ds → bs ≡ ds
  follow_one c l [] [] f g = refl
  follow_one c l [] (d ∷ ds) f g =
      let le : d.from ≤ d.to = g.0.1 in
      let lt : d.to < l = g.0.2 in
      absurd (differ (O d.from) d.output (f d.from g.0.0 (omega arith)) g.0.3 (g.2 d.from (omega arith) g.0.1))
  follow_one c l (b ∷ bs) [] f g =
      let le : b.from ≤ b.to = f.0.1 in
      let lt : b.to < l = f.0.2 in
      absurd (differ (O b.from) b.output (g b.from f.0.0 (omega arith)) f.0.3 (f.2 b.from (omega arith) f.0.1))
  follow_one c l (b ∷ bs) (d ∷ ds) f g =
      let from : b.from ≡ d.from = same_from c l b d bs ds f g in
      let b_forward : b.from ≤ b.to = f.0.1 in
      let d_forward : d.from ≤ d.to = g.0.1 in
      let output : b.output ≡ d.output = sym (f.2 b.from (omega arith) f.0.1) ∙ g.2 b.from (omega arith) (omega arith) in
      let to : b.to ≡ d.to = same_to c l b d bs ds f g from output in
      λ i. record { from = from i; to = to i; output = output i } ∷ follow_one (d.to + 1) l bs ds (subst (λ e. Follow O (e + 1) l bs) to f.4) g.4 i

pub are_unique : AreUnique
are_unique O c l bs ds b d = follow_one O c l bs ds (follow_from O c l bs b) (follow_from O c l ds d)
