-- Lists that are written index by index.
use Rattle.std.proofs.Common.{◌≡◌, ℕ, zero, suc, ◌+◌, ◌<◌, List, [], ◌∷◌, ◌++◌, map, take, drop, set, length, get_or, refl, ap, ◌∙◌, arith, add-one}

module _ {A : Type 0} (f : A → A) where
  -- the indices so far are turned
  abbrev pub written : List A → ℕ → List A
  written old i = map f (take i old) ++ drop i old

  pub next_is : (old : List A) (i : ℕ) (d : A) → i < length old → get_or (written old i) i d ≡ get_or old i d
  next_is [] i d lt = absurd (omega arith)
  next_is (o ∷ old) zero d lt = refl
  next_is (o ∷ old) (suc i) d lt = next_is old i d (omega arith)

  write_next : (old : List A) (i : ℕ) (d : A) → i < length old → set (written old i) i (f (get_or old i d)) ≡ written old (suc i)
  write_next [] i d lt = absurd (omega arith)
  write_next (o ∷ old) zero d lt = refl
  write_next (o ∷ old) (suc i) d lt = ap (λ l. f o ∷ l) (write_next old i d (omega arith))

  -- one index more
  pub written_on : (old now : List A) (i : ℕ) (x y : A) → i < length old → now ≡ written old i → x ≡ get_or now i x → y ≡ f x → set now i y ≡ written old (i + 1)
  written_on old now i x y lt was at is =
      let same : x ≡ get_or old i x = at ∙ ap (λ l. get_or l i x) was ∙ next_is old i x lt in
      rw add-one (ap (λ l. set l i y) was ∙ ap (set (written old i) i) (is ∙ ap f same) ∙ write_next old i x lt)
