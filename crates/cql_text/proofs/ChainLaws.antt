-- Items with operators between them: the reader and the rule.
use Rattle.std.proofs.Common.{◌≡◌, ◌≤◌, ℕ, zero, suc, [], ◌∷◌, ◌++◌, length, Ok, Err, Option, Some, None, refl, sym, ap, ◌∙◌, subst, append_assoc, length-append, arith, ◌⊎◌, inl, inr}
use Rattle.cql_syntax.specs.declared.token.Token.{Token}
use Rattle.cql_syntax.specs.Tokens.{Tokens}
use Rattle.cql_syntax.specs.Cursor.{Outcome, Parser, at_head, linked}
use Rattle.cql_text.specs.Reading.{and_then, chain}
use Rattle.cql_text.specs.Rules.{Rule, GoesOn, ends, goes}
use Rattle.cql_text.proofs.Laws.{IsPlain, ArePlain, plain-append, IsSound, IsComplete, IsViable, IsFree, Looks, GoesOnSo, rest_of, with_rest}

pub and_then_ok : {A B : Type 0} (o : Outcome A) (f : A → Parser B) (y : B × Tokens) → and_then o f ≡ Ok y → (x : A) × (us : Tokens) × (o ≡ Ok (x, us)) × (f x us ≡ Ok y)
and_then_ok (Ok p) f y h = (p.0, p.1, refl, h)
and_then_ok (Err e) f y h = cc

pub and_then_err : {A B : Type 0} (o : Outcome A) (f : A → Parser B) (rest : Tokens) → and_then o f ≡ Err rest → (o ≡ Err rest) ⊎ ((x : A) × (us : Tokens) × (o ≡ Ok (x, us)) × (f x us ≡ Err rest))
and_then_err (Ok p) f rest h = inr (p.0, p.1, refl, h)
and_then_err (Err e) f rest h = let e : e ≡ rest = cc in inl (ap Err e)

pub same_ok : {A : Type 0} (x y : A) (r s : Tokens) (o : Outcome A) → o ≡ Ok (x, r) → o ≡ Ok (y, s) → (x ≡ y) × (r ≡ s)
same_ok {A} x y r s o g h =
    let p : A × Tokens = (x, r) in
    let q : A × Tokens = (y, s) in
    let e : p ≡ q = cc in
    (ap (λ (w : A × Tokens). w.0) e, ap (λ (w : A × Tokens). w.1) e)

-- where a reader stopped before t, what comes after t plays no part for it
pub looks_through : {A : Type 0} (p : Parser A) → Looks p → (ts us : Tokens) (x : A) → p ts ≡ Ok (x, us) → (back : Tokens) (t : Token) (r : Tokens) → us ≡ back ++ t ∷ r →
    (front : Tokens) × (ts ≡ front ++ t ∷ r) × ((s : Tokens) → p (front ++ t ∷ s) ≡ Ok (x, back ++ t ∷ s)) × (length back ≤ length front)
looks_through p k ts us x e [] t r h =
    let a = k ts t r (ap rest_of e ∙ h) in
    (a.0, a.1, λ s. a.2 s ∙ ap (λ o. with_rest o (t ∷ s)) e, omega arith)
looks_through p k ts us x e (u ∷ g) t r h =
    let a = k ts u (g ++ t ∷ r) (ap rest_of e ∙ h) in (
      a.0 ++ u ∷ g,
      a.1 ∙ sym (append_assoc a.0 (u ∷ g) (t ∷ r)),
      λ s. rw (append_assoc a.0 (u ∷ g) (t ∷ s)) (a.2 (g ++ t ∷ s) ∙ ap (λ o. with_rest o (u ∷ (g ++ t ∷ s))) e),
      omega (arith, length-append a.0 (u ∷ g)),
    )

pub bind_looks : {A B : Type 0} (p : Parser A) (f : A → Parser B) → Looks p → ((x : A) → Looks (f x)) → Looks (λ ts. and_then (p ts) f)
bind_looks {A} {B} p f k l ts t r h = at (p ts) refl h
  where
    at : (o : Outcome A) → p ts ≡ o → rest_of (and_then o f) ≡ t ∷ r → (front : Tokens) × (ts ≡ front ++ t ∷ r) × ((s : Tokens) → and_then (p (front ++ t ∷ s)) f ≡ with_rest (and_then o f) (t ∷ s))
    at (Err q) e h =
        let a = k ts t r (ap rest_of e ∙ h) in
        (a.0, a.1, λ s. rw (a.2 s, e))
    at (Ok y) e h =
        let b = l y.0 y.1 t r h in
        let a = looks_through p k ts y.1 y.0 e b.0 t r b.1 in
        (a.0, a.1, λ s. rw (a.2 s) (b.2 s))

module _ {A O : Type 0} (item : Parser A) (Item : Rule A) (operator : Token → Option O) (join : O → A → A → A) where
  abbrev pub Goes : Tokens → A → A → Tokens → Type 0
  Goes = GoesOn Item operator join

  abbrev pub go : ℕ → A → Parser A
  go = chain item operator join

  goes_none : (ts rest : Tokens) (left whole : A) (o : Outcome A) → o ≡ Ok (left, ts) → o ≡ Ok (whole, rest) → Goes ts left whole rest
  goes_none ts rest left whole o g h = let e = same_ok left whole ts rest o g h in subst (λ r. Goes ts left whole r) e.1 (subst (λ w. Goes ts left w ts) e.0 (ends ts left))

  abbrev Sounds : ℕ → Type 0
  Sounds n = (ts rest : Tokens) (left whole : A) → go n left ts ≡ Ok (whole, rest) → Goes ts left whole rest

  sound_at : IsSound item Item → (n : ℕ) → Sounds n → (x : Token) (ts rest : Tokens) (left whole : A) (o : Option O) → operator x ≡ o →
      linked o (Ok (left, x ∷ ts)) (λ op. and_then (item ts) (λ right. go n (join op left right))) ≡ Ok (whole, rest) → Goes (x ∷ ts) left whole rest
  sound_at s n ih x ts rest left whole None e h = goes_none (x ∷ ts) rest left whole _ refl h
  sound_at s n ih x ts rest left whole (Some op) e h =
      let k = and_then_ok (item ts) (λ right. go n (join op left right)) (whole, rest) h in
      goes x op ts k.1 rest left k.0 whole e (s ts k.1 k.0 k.2) (ih k.1 rest (join op left k.0) whole k.3)

  pub chain_sound : IsSound item Item → (n : ℕ) → Sounds n
  unfolding chain
  chain_sound s zero ts rest left whole h = goes_none ts rest left whole _ refl h
  chain_sound s (suc n) [] rest left whole h = goes_none [] rest left whole _ refl h
  chain_sound s (suc n) (x ∷ ts) rest left whole h = sound_at s n (chain_sound s n) x ts rest left whole (operator x) refl h

  -- ---- what is so is read

  pub goes_stops : (Stops : Tokens → Type 0) → ((x : Token) (op : O) (ts : Tokens) → operator x ≡ Some op → Stops (x ∷ ts)) → (ts rest : Tokens) (left whole : A) →
      Goes ts left whole rest → Stops rest → Stops ts
  goes_stops Stops f ts rest left whole (ends _ _) st = st
  goes_stops Stops f ts rest left whole (goes x op us vs _ _ right _ e i g) st = f x op us e

  pub goes_free : ((x : Token) (op : O) → operator x ≡ Some op → IsPlain x) → IsFree Item → (ts rest : Tokens) (left whole : A) → Goes ts left whole rest →
      (front : Tokens) × (ts ≡ front ++ rest) × ((after : Tokens) → Goes (front ++ after) left whole after) × ArePlain front
  goes_free pl fr ts rest left whole (ends _ _) = ([], refl, λ after. ends after left, tt)
  goes_free pl fr ts rest left whole (goes x op us vs _ _ right _ e i g) =
      let a = fr us vs right i in
      let b = goes_free pl fr vs rest (join op left right) whole g in (
        x ∷ (a.0 ++ b.0),
        ap (λ l. x ∷ l) (a.1 ∙ ap (λ l. a.0 ++ l) b.1 ∙ sym (append_assoc a.0 b.0 rest)),
        λ after. goes x op ((a.0 ++ b.0) ++ after) (b.0 ++ after) after left right whole e (rw (append_assoc a.0 b.0 after) (a.2 (b.0 ++ after))) (b.2 after),
        (pl x op e, plain-append a.0 b.0 a.3 b.3),
      )

  pub chain_complete : (Stops : Tokens → Type 0) → ((x : Token) (op : O) (ts : Tokens) → operator x ≡ Some op → Stops (x ∷ ts)) → IsFree Item → IsComplete item Item Stops →
      (ts rest : Tokens) (left whole : A) → Goes ts left whole rest → Stops rest → at_head operator rest ≡ None → (n : ℕ) → length ts ≤ n → go n left ts ≡ Ok (whole, rest)
  unfolding chain
  chain_complete Stops f fr c ts rest left whole (ends _ _) st halt zero h = refl
  chain_complete Stops f fr c ts rest left whole (ends _ _) st halt (suc n) h = rw halt refl
  chain_complete Stops f fr c ts rest left whole (goes x op us vs _ _ right _ e i g) st halt zero h = absurd (omega arith)
  chain_complete Stops f fr c ts rest left whole (goes x op us vs _ _ right _ e i g) st halt (suc n) h =
      let a = fr us vs right i in
      let shorter : length vs ≤ n = omega (arith, ap length a.1, length-append a.0 vs) in
      rw (e, c us vs right i (goes_stops Stops f vs rest (join op left right) whole g st)) (chain_complete Stops f fr c vs rest (join op left right) whole g st halt n shorter)

  -- ---- a refusal

  pub chain_viable : IsViable item Item → IsFree Item → IsSound item Item → (n : ℕ) (ts rest : Tokens) (left : A) → go n left ts ≡ Err rest → GoesOnSo (λ us whole vs. Goes us left whole vs) ts rest
  unfolding chain
  chain_viable v fr s zero ts rest left h = cc
  chain_viable v fr s (suc n) [] rest left h = cc
  chain_viable v fr s (suc n) (x ∷ ts) rest left h = viable_at v fr s n (chain_viable v fr s n) x ts rest left (operator x) refl h
    where
      viable_at : IsViable item Item → IsFree Item → IsSound item Item → (n : ℕ) →
          ((ts rest : Tokens) (left : A) → go n left ts ≡ Err rest → GoesOnSo (λ us whole vs. Goes us left whole vs) ts rest) →
          (x : Token) (ts rest : Tokens) (left : A) (o : Option O) → operator x ≡ o →
          linked o (Ok (left, x ∷ ts)) (λ op. and_then (item ts) (λ right. go n (join op left right))) ≡ Err rest → GoesOnSo (λ us whole vs. Goes us left whole vs) (x ∷ ts) rest
      viable_at v fr s n ih x ts rest left None e h = cc
      viable_at v fr s n ih x ts rest left (Some op) e h = elim (and_then_err (item ts) (λ right. go n (join op left right)) rest h) [
        | inl k ↦ (let a = v ts rest k in (
          x ∷ a.0,
          a.1,
          join op left a.2,
          ap (λ l. x ∷ l) a.3,
          λ after. goes x op (a.0 ++ (a.1 ++ after)) after after left a.2 (join op left a.2) e (a.4 after) (ends after (join op left a.2)),
        ))
        | inr k ↦ (let a = fr ts k.1 k.0 (s ts k.1 k.0 k.2) in
            let b = ih k.1 rest (join op left k.0) k.3 in (
              x ∷ (a.0 ++ b.0),
              b.1,
              b.2,
              ap (λ l. x ∷ l) (a.1 ∙ ap (λ l. a.0 ++ l) b.3 ∙ sym (append_assoc a.0 b.0 rest)),
              λ after. goes x op ((a.0 ++ b.0) ++ (b.1 ++ after)) (b.0 ++ (b.1 ++ after)) after left k.0 b.2 e
                  (rw (append_assoc a.0 b.0 (b.1 ++ after)) (a.2 (b.0 ++ (b.1 ++ after)))) (b.4 after),
            ))
      ]

  -- ---- no further than where it stops

  abbrev LooksOn : ℕ → Tokens → A → Token → Tokens → Type 0
  LooksOn n ts left t r = (front : Tokens) × (ts ≡ front ++ t ∷ r) × ((s : Tokens) (m : ℕ) → length (front ++ t ∷ s) ≤ m → go m left (front ++ t ∷ s) ≡ with_rest (go n left ts) (t ∷ s))

  pub chain_looks : ((ts us : Tokens) (x : A) → item ts ≡ Ok (x, us) → (n : ℕ) → length ts ≤ n → length us ≤ n) → Looks item → (n : ℕ) (ts : Tokens) (left : A) (t : Token) (r : Tokens) → length ts ≤ n → rest_of (go n left ts) ≡ t ∷ r → LooksOn n ts left t r
  unfolding chain
  chain_looks within k zero [] left t r b h = cc
  chain_looks within k zero (x ∷ ts) left t r b h = absurd (omega arith)
  chain_looks within k (suc n) [] left t r b h = cc
  chain_looks within k (suc n) (x ∷ ts) left t r b h = looks_at within k n (chain_looks within k n) x ts left t r b (operator x) refl h
    where
      stops : (x : Token) (ts : Tokens) (left : A) (t : Token) (r : Tokens) → operator x ≡ None → x ∷ ts ≡ t ∷ r → (s : Tokens) (m : ℕ) → length (t ∷ s) ≤ m → go m left (t ∷ s) ≡ Ok (left, t ∷ s)
      stops x ts left t r e h s zero b = absurd (omega arith)
      stops x ts left t r e h s (suc m) b = let same : x ≡ t = cc in rw (← same, e) refl

      failed : (x : Token) (left : A) (op : O) → operator x ≡ Some op → (us rest : Tokens) (m : ℕ) → item us ≡ Err rest → length (x ∷ us) ≤ m → go m left (x ∷ us) ≡ Err rest
      failed x left op e us rest zero f b = absurd (omega arith)
      failed x left op e us rest (suc m) f b = rw (e, f) refl

      passed : (x : Token) (left : A) (op : O) → operator x ≡ Some op → (us vs : Tokens) (m : ℕ) (right : A) (o : Outcome A) → item us ≡ Ok (right, vs) →
          ((m : ℕ) → length vs ≤ m → go m (join op left right) vs ≡ o) → length vs ≤ length us → length (x ∷ us) ≤ m → go m left (x ∷ us) ≡ o
      passed x left op e us vs zero right o f g l b = absurd (omega arith)
      passed x left op e us vs (suc m) right o f g l b = rw (e, f) (g m (omega arith))

      looks_some : ((ts us : Tokens) (x : A) → item ts ≡ Ok (x, us) → (n : ℕ) → length ts ≤ n → length us ≤ n) → Looks item → (n : ℕ) →
          ((ts : Tokens) (left : A) (t : Token) (r : Tokens) → length ts ≤ n → rest_of (go n left ts) ≡ t ∷ r → LooksOn n ts left t r) →
          (x : Token) (ts : Tokens) (left : A) (t : Token) (r : Tokens) → length (x ∷ ts) ≤ suc n → (op : O) → operator x ≡ Some op → (o : Outcome A) → item ts ≡ o →
          rest_of (and_then o (λ right. go n (join op left right))) ≡ t ∷ r →
          (front : Tokens) × (x ∷ ts ≡ front ++ t ∷ r) × ((s : Tokens) (m : ℕ) → length (front ++ t ∷ s) ≤ m → go m left (front ++ t ∷ s) ≡ with_rest (and_then o (λ right. go n (join op left right))) (t ∷ s))
      looks_some within k n ih x ts left t r b op e (Err q) f h =
          let a = k ts t r (ap rest_of f ∙ h) in
          (x ∷ a.0, ap (λ l. x ∷ l) a.1, λ s m. failed x left op e (a.0 ++ t ∷ s) (t ∷ s) m (a.2 s ∙ ap (λ o. with_rest o (t ∷ s)) f))
      looks_some within k n ih x ts left t r b op e (Ok p) f h =
          let c = ih p.1 (join op left p.0) t r (within ts p.1 p.0 f n (omega arith)) h in
          let a = looks_through item k ts p.1 p.0 f c.0 t r c.1 in (
            x ∷ a.0,
            ap (λ l. x ∷ l) a.1,
            λ s m. passed x left op e (a.0 ++ t ∷ s) (c.0 ++ t ∷ s) m p.0 _ (a.2 s) (c.2 s)
                (omega (arith, length-append a.0 (t ∷ s), length-append c.0 (t ∷ s), a.3)),
          )

      looks_at : ((ts us : Tokens) (x : A) → item ts ≡ Ok (x, us) → (n : ℕ) → length ts ≤ n → length us ≤ n) → Looks item → (n : ℕ) →
          ((ts : Tokens) (left : A) (t : Token) (r : Tokens) → length ts ≤ n → rest_of (go n left ts) ≡ t ∷ r → LooksOn n ts left t r) →
          (x : Token) (ts : Tokens) (left : A) (t : Token) (r : Tokens) → length (x ∷ ts) ≤ suc n → (o : Option O) → operator x ≡ o →
          rest_of (linked o (Ok (left, x ∷ ts)) (λ op. and_then (item ts) (λ right. go n (join op left right)))) ≡ t ∷ r →
          (front : Tokens) × (x ∷ ts ≡ front ++ t ∷ r) × ((s : Tokens) (m : ℕ) → length (front ++ t ∷ s) ≤ m →
          go m left (front ++ t ∷ s) ≡ with_rest (linked o (Ok (left, x ∷ ts)) (λ op. and_then (item ts) (λ right. go n (join op left right)))) (t ∷ s))
      looks_at within k n ih x ts left t r b None e h = ([], h, λ s m. stops x ts left t r e h s m)
      looks_at within k n ih x ts left t r b (Some op) e h = looks_some within k n ih x ts left t r b op e (item ts) refl h
