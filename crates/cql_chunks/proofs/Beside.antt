-- Rows whose times and numbers lie side by side.
use Rattle.std.proofs.Common.{inl, inr, ◌≡◌, ◌↔◌, ℕ, zero, suc, ◌+◌, ◌-◌, ◌*◌, ◌≤◌, ◌<◌, ℤ, List, [], ◌∷◌, ◌++◌, length, map, take, drop, refl, sym, ap, ◌∙◌, arith, length-append, length-drop}
use Rattle.std.proofs.Math.Nat.{mul-zero, zero-mul, mul-suc, mul-sub, mul-le-mul_left, eq-zero-or-pos}
use Rattle.std.proofs.Math.Seq.{take-append-add, drop-append-add}
use Rattle.std.proofs.lemmas.List.{length-map, take_at, drop_at}
use Rattle.cql_value.specs.declared.value.Value.{Value}
use Rattle.cql_value.specs.declared.value.Value.TheVariants.{Number, Text}
use Rattle.cql_value.specs.Element.{Element}
use Rattle.cql_value.specs.Order.{number_of}
use Rattle.cql_chunks.specs.Beside.{words_in, words_of, AreNumbers, HaveWords, IsBeside}

-- ---- the words of a part are a part of the words

one_length : (w : ℕ) (e : Element) → length e.row + 1 ≡ w → length (words_in e) ≡ w
one_length w e is = omega (arith, length-map e.row number_of, is)

words_length : (w : ℕ) (rows : List Element) → HaveWords w rows → length (words_of rows) ≡ w * length rows
words_length w [] have = omega (arith, mul-zero w)
words_length w (e ∷ rows) have =
    length-append (words_in e) (words_of rows)
    ∙ ap (λ n. n + length (words_of rows)) (one_length w e have.0.0)
    ∙ omega (arith, words_length w rows have.1, mul-suc w (length rows))

have_take : (w n : ℕ) (rows : List Element) → HaveWords w rows → HaveWords w (take n rows)
have_take w zero rows have = tt
have_take w (suc n) [] have = tt
have_take w (suc n) (e ∷ rows) have = (have.0, have_take w n rows have.1)

have_drop : (w n : ℕ) (rows : List Element) → HaveWords w rows → HaveWords w (drop n rows)
have_drop w zero rows have = have
have_drop w (suc n) [] have = have
have_drop w (suc n) (e ∷ rows) have = have_drop w n rows have.1

-- the words of one more row are so many more
more_words : (w n : ℕ) (e : Element) → length e.row + 1 ≡ w → w * suc n ≡ length (words_in e) + w * n
more_words w n e is = omega (arith, mul-suc w n, one_length w e is)

words_take : (w n : ℕ) (rows : List Element) → HaveWords w rows → n ≤ length rows → take (w * n) (words_of rows) ≡ words_of (take n rows)
words_take w zero rows have bound = ap (λ m. take m (words_of rows)) (mul-zero w)
words_take w (suc n) [] have bound = absurd (omega (arith, bound))
words_take w (suc n) (e ∷ rows) have bound =
    ap (λ m. take m (words_in e ++ words_of rows)) (more_words w n e have.0.0)
    ∙ take-append-add (words_in e) (words_of rows) (w * n)
    ∙ ap (λ l. words_in e ++ l) (words_take w n rows have.1 (omega (arith, bound)))

words_drop : (w n : ℕ) (rows : List Element) → HaveWords w rows → n ≤ length rows → drop (w * n) (words_of rows) ≡ words_of (drop n rows)
words_drop w zero rows have bound = ap (λ m. drop m (words_of rows)) (mul-zero w)
words_drop w (suc n) [] have bound = absurd (omega (arith, bound))
words_drop w (suc n) (e ∷ rows) have bound =
    ap (λ m. drop m (words_in e ++ words_of rows)) (more_words w n e have.0.0)
    ∙ drop-append-add (words_in e) (words_of rows) (w * n)
    ∙ words_drop w n rows have.1 (omega (arith, bound))

-- ---- rows of numbers with the same words are the same

numbers_same : (r s : List Value) → AreNumbers r → AreNumbers s → map number_of r ≡ map number_of s → r ≡ s
numbers_same [] [] are others is = refl
numbers_same [] (v ∷ s) are others is = cc
numbers_same (v ∷ r) [] are others is = cc
numbers_same (Text t ∷ r) (v ∷ s) are others is = absurd (omega (arith, are.0))
numbers_same (Number m ∷ r) (Text t ∷ s) are others is = absurd (omega (arith, others.0))
numbers_same (Number m ∷ r) (Number n ∷ s) are others is =
    let front : m ≡ n = cc in
    let rest : map number_of r ≡ map number_of s = cc in
    ap (λ k. Number k ∷ r) front ∙ ap (λ l. Number n ∷ l) (numbers_same r s are.1 others.1 rest)

one_same : (e f : Element) → AreNumbers e.row → AreNumbers f.row → words_in e ≡ words_in f → e ≡ f
one_same e f are others is =
    let make : ℕ → List Value → Element = λ a r. record { at = a; row = r } in
    let time : e.at ≡ f.at = cc in
    let rest : map number_of e.row ≡ map number_of f.row = cc in
    ap (λ a. make a e.row) time ∙ ap (make f.at) (numbers_same e.row f.row are others rest)

words_same : (w : ℕ) (xs ys : List Element) → HaveWords w xs → HaveWords w ys → words_of xs ≡ words_of ys → xs ≡ ys
words_same w [] [] have others is = refl
words_same w [] (f ∷ ys) have others is = cc
words_same w (e ∷ xs) [] have others is = cc
words_same w (e ∷ xs) (f ∷ ys) have others is =
    let long = one_length w e have.0.0 in
    let far = one_length w f others.0.0 in
    let first : words_in e ≡ words_in f
    = sym (take_at (words_in e) (words_of xs) w long) ∙ ap (take w) is ∙ take_at (words_in f) (words_of ys) w far in
    let rest : words_of xs ≡ words_of ys
    = sym (drop_at (words_in e) (words_of xs) w long) ∙ ap (drop w) is ∙ drop_at (words_in f) (words_of ys) w far in
    ap (λ x. x ∷ xs) (one_same e f have.0.1 others.0.1 first) ∙ ap (λ l. f ∷ l) (words_same w xs ys have.1 others.1 rest)

-- ---- words beside rows

-- there are words for all rows
pub beside_long : (w n : ℕ) (words : List ℤ) (rows : List Element) → IsBeside w words rows → n ≤ length rows → w * n ≤ length words
beside_long w n words rows beside bound =
    elim (eq-zero-or-pos w) [
      | inl none ↦ rw none (omega (arith, zero-mul n))
      | inr some ↦
          let b = beside some in
          omega (arith, ap length b.1, words_length w rows b.0, mul-le-mul_left w bound)
    ]

pub beside_part : (w from to : ℕ) (words : List ℤ) (rows : List Element) → IsBeside w words rows → from ≤ to → to ≤ length rows
    → IsBeside w (take (w * to - w * from) (drop (w * from) words)) (take (to - from) (drop from rows))
beside_part w from to words rows beside order bound = λ some.
    let b = beside some in
    let have = have_drop w from rows b.0 in (
      have_take w (to - from) (drop from rows) have,
      ap (λ l. take (w * to - w * from) (drop (w * from) l)) b.1
          ∙ ap (λ n. take n (drop (w * from) (words_of rows))) (sym (mul-sub w to from))
          ∙ ap (take (w * (to - from))) (words_drop w from rows b.0 (omega (arith, order, bound)))
          ∙ words_take w (to - from) (drop from rows) have (omega (arith, length-drop from rows, bound)),
    )

-- as many rows from the front are the same exactly where their words are
pub beside_same : (w n : ℕ) (us vs : List ℤ) (xs ys : List Element) → 0 < w → IsBeside w us xs → IsBeside w vs ys → n ≤ length xs → n ≤ length ys
    → (take (w * n) us ≡ take (w * n) vs) ↔ (take n xs ≡ take n ys)
beside_same w n us vs xs ys some one other short below =
    let b = one some in
    let d = other some in
    let left : take (w * n) us ≡ words_of (take n xs) = ap (take (w * n)) b.1 ∙ words_take w n xs b.0 short in
    let right : take (w * n) vs ≡ words_of (take n ys) = ap (take (w * n)) d.1 ∙ words_take w n ys d.0 below in (
      λ is. words_same w (take n xs) (take n ys) (have_take w n xs b.0) (have_take w n ys d.0) (sym left ∙ is ∙ right),
      λ is. left ∙ ap words_of is ∙ sym right,
    )
