-- A list and its pairs.
use Rattle.std.proofs.Common.{◌≡◌, ℕ, zero, suc, ◌+◌, ◌-◌, ◌*◌, ◌/◌, ◌%◌, ◌<◌, ◌≤◌, List, [], ◌∷◌, ◌++◌, length, min, refl, ap, sym, ◌∙◌, arith, set, get_or, Some, inl, inr}
use Rattle.std.proofs.lemmas.Bool.{cases_lt}
use Rattle.cql_bag.specs.Levels.{pair_least, least_from, least_of, halved, put}

pub length-pair_least : (xs : List ℕ) → length (pair_least xs) ≡ (length xs + 1) / 2
length-pair_least [] = refl
length-pair_least (x ∷ []) = refl
length-pair_least (x ∷ y ∷ rest) = let more : length (pair_least rest) ≡ (length rest + 1) / 2 = length-pair_least rest in omega (arith, more)

-- one index changed changes one index of the pairs
pub pair_least-set : (xs : List ℕ) (p v : ℕ) → p < length xs → pair_least (set xs p v) ≡ set (pair_least xs) (p / 2) (get_or (pair_least (set xs p v)) (p / 2) 0)
pair_least-set [] p v within = absurd (omega (arith, within))
pair_least-set (x ∷ []) zero v within = refl
pair_least-set (x ∷ []) (suc p) v within = absurd (omega (arith, within))
pair_least-set (x ∷ y ∷ rest) zero v within = refl
pair_least-set (x ∷ y ∷ rest) (suc zero) v within = refl
pair_least-set (x ∷ y ∷ rest) (suc (suc p)) v within =
    let inner : p < length rest = omega (arith, within) in
    let half : suc (suc p) / 2 ≡ suc (p / 2) = omega arith in
    rw half (ap (λ l. min x y ∷ l) (pair_least-set rest p v inner))

-- the least of two neighbours
pub pair_least-both : (xs : List ℕ) (i : ℕ) → 2 * i + 1 < length xs → get_or (pair_least xs) i 0 ≡ min (get_or xs (2 * i) 0) (get_or xs (2 * i + 1) 0)
pair_least-both [] i within = omega (arith, within)
pair_least-both (x ∷ []) i within = omega (arith, within)
pair_least-both (x ∷ y ∷ rest) zero within = refl
pair_least-both (x ∷ y ∷ rest) (suc i) within =
    let inner : 2 * i + 1 < length rest = omega (arith, within) in
    let left : 2 * suc i ≡ suc (suc (2 * i)) = omega arith in
    let right : 2 * suc i + 1 ≡ suc (suc (2 * i + 1)) = omega arith in
    rw right (rw left (pair_least-both rest i inner))

-- an odd last one stands by itself
pub pair_least-last : (xs : List ℕ) (i : ℕ) → 2 * i + 1 ≡ length xs → get_or (pair_least xs) i 0 ≡ get_or xs (2 * i) 0
pair_least-last [] i odd = omega (arith, odd)
pair_least-last (x ∷ []) zero odd = refl
pair_least-last (x ∷ []) (suc i) odd = omega (arith, odd)
pair_least-last (x ∷ y ∷ rest) zero odd = omega (arith, odd)
pair_least-last (x ∷ y ∷ rest) (suc i) odd =
    let inner : 2 * i + 1 ≡ length rest = omega (arith, odd) in
    let left : 2 * suc i ≡ suc (suc (2 * i)) = omega arith in
    rw left (pair_least-last rest i inner)

min-min : (m x y : ℕ) → min m (min x y) ≡ min (min m x) y
min-min m x y = omega arith

least_from-pairs : (m : ℕ) (xs : List ℕ) → least_from m (pair_least xs) ≡ least_from m xs
least_from-pairs m [] = refl
least_from-pairs m (x ∷ []) = refl
least_from-pairs m (x ∷ y ∷ rest) = rw (min-min m x y) (least_from-pairs (min (min m x) y) rest)

-- pairing keeps the least
pub least_of-pairs : (xs : List ℕ) → least_of (pair_least xs) ≡ least_of xs
least_of-pairs [] = refl
least_of-pairs (x ∷ []) = refl
least_of-pairs (x ∷ y ∷ rest) = ap Some (least_from-pairs (min x y) rest)

pub least_of-halved : (k : ℕ) (xs : List ℕ) → least_of (halved k xs) ≡ least_of xs
least_of-halved zero xs = refl
least_of-halved (suc k) xs = least_of-pairs (halved k xs) ∙ least_of-halved k xs

-- one more level of a list with one index changed
pub halved-set : (k : ℕ) (xs ys : List ℕ) (p v : ℕ) → p < length (halved k xs) → halved k ys ≡ set (halved k xs) p v → halved (suc k) ys ≡ set (halved (suc k) xs) (p / 2) (get_or (pair_least (set (halved k xs) p v)) (p / 2) 0)
halved-set k xs ys p v within here = ap pair_least here ∙ pair_least-set (halved k xs) p v within

pub halved-within : (k : ℕ) (xs : List ℕ) (p : ℕ) → p < length (halved k xs) → p / 2 < length (halved (suc k) xs)
halved-within k xs p within = let long : length (pair_least (halved k xs)) ≡ (length (halved k xs) + 1) / 2 = length-pair_least (halved k xs) in omega (arith, long, within)

-- the pair of an index
pub pair_at-both : (xs : List ℕ) (p : ℕ) → (p - p % 2) + 1 < length xs → get_or (pair_least xs) (p / 2) 0 ≡ min (get_or xs (p - p % 2) 0) (get_or xs ((p - p % 2) + 1) 0)
pair_at-both xs p within =
    let even : p - p % 2 ≡ 2 * (p / 2) = omega arith in
    let inner : 2 * (p / 2) + 1 < length xs = omega (arith, within) in
    rw even (pair_least-both xs (p / 2) inner)

pub pair_at-last : (xs : List ℕ) (p : ℕ) → p < length xs → length xs ≤ (p - p % 2) + 1 → get_or (pair_least xs) (p / 2) 0 ≡ get_or xs (p - p % 2) 0
pair_at-last xs p within past =
    let even : p - p % 2 ≡ 2 * (p / 2) = omega arith in
    let inner : 2 * (p / 2) + 1 ≡ length xs = omega (arith, within, past) in
    rw even (pair_least-last xs (p / 2) inner)

-- the length after pairings is that of any list as long
pub length-halved : (k : ℕ) (xs ys : List ℕ) → length xs ≡ length ys → length (halved k xs) ≡ length (halved k ys)
length-halved zero xs ys same = same
length-halved (suc k) xs ys same =
    let inner : length (halved k xs) ≡ length (halved k ys) = length-halved k xs ys same in
    length-pair_least (halved k xs) ∙ ap (λ n. (n + 1) / 2) inner ∙ sym (length-pair_least (halved k ys))

-- the two above at `k + 1`, as a loop says it
pub halved-set_next : (k : ℕ) (xs ys : List ℕ) (p v n : ℕ) → p < length (halved k xs) → halved k ys ≡ set (halved k xs) p v → n ≡ get_or (pair_least (set (halved k xs) p v)) (p / 2) 0 → halved (k + 1) ys ≡ set (halved (k + 1) xs) (p / 2) n
halved-set_next k xs ys p v n within here number = let e : k + 1 ≡ suc k = omega arith in rw e (rw number (halved-set k xs ys p v within here))

pub halved-within_next : (k : ℕ) (xs : List ℕ) (p : ℕ) → p < length (halved k xs) → p / 2 < length (halved (k + 1) xs)
halved-within_next k xs p within = let e : k + 1 ≡ suc k = omega arith in rw e (halved-within k xs p within)

-- one index changed, or one more at the end, does the same to the pairs
pub pair_least-put : (xs : List ℕ) (p v : ℕ) → p ≤ length xs → pair_least (put xs p v) ≡ put (pair_least xs) (p / 2) (get_or (pair_least (put xs p v)) (p / 2) 0)
pair_least-put [] zero v within = refl
pair_least-put [] (suc p) v within = absurd (omega (arith, within))
pair_least-put (x ∷ []) zero v within = refl
pair_least-put (x ∷ []) (suc zero) v within = refl
pair_least-put (x ∷ []) (suc (suc p)) v within = absurd (omega (arith, within))
pair_least-put (x ∷ y ∷ rest) zero v within = refl
pair_least-put (x ∷ y ∷ rest) (suc zero) v within = refl
pair_least-put (x ∷ y ∷ rest) (suc (suc p)) v within =
    let inner : p ≤ length rest = omega (arith, within) in
    let half : suc (suc p) / 2 ≡ suc (p / 2) = omega arith in
    rw half (ap (λ l. min x y ∷ l) (pair_least-put rest p v inner))

pub put-set : (xs : List ℕ) (p v : ℕ) → p < length xs → put xs p v ≡ set xs p v
put-set [] p v within = absurd (omega (arith, within))
put-set (x ∷ xs) zero v within = refl
put-set (x ∷ xs) (suc p) v within = ap (λ l. x ∷ l) (let inner : p < length xs = omega (arith, within) in put-set xs p v inner)

pub put-push : (xs : List ℕ) (p v : ℕ) → p ≡ length xs → put xs p v ≡ xs ++ v ∷ []
put-push [] p v is = refl
put-push (x ∷ xs) zero v is = absurd (omega (arith, is))
put-push (x ∷ xs) (suc p) v is = ap (λ l. x ∷ l) (let inner : p ≡ length xs = omega (arith, is) in put-push xs p v inner)

-- the same for a change or one more at the end
pub halved-put_next : (k : ℕ) (xs ys : List ℕ) (p v n : ℕ) → p ≤ length (halved k xs) → halved k ys ≡ put (halved k xs) p v → n ≡ get_or (pair_least (put (halved k xs) p v)) (p / 2) 0 → halved (k + 1) ys ≡ put (halved (k + 1) xs) (p / 2) n
halved-put_next k xs ys p v n within here number = let e : k + 1 ≡ suc k = omega arith in rw e (rw number (ap pair_least here ∙ pair_least-put (halved k xs) p v within))

pub halved-upto_next : (k : ℕ) (xs : List ℕ) (p : ℕ) → p ≤ length (halved k xs) → p / 2 ≤ length (halved (k + 1) xs)
halved-upto_next k xs p within =
    let e : k + 1 ≡ suc k = omega arith in
    let long : length (pair_least (halved k xs)) ≡ (length (halved k xs) + 1) / 2 = length-pair_least (halved k xs) in
    rw e (let few : p / 2 ≤ length (pair_least (halved k xs)) = omega (arith, long, within) in few)

-- of two neighbours whose least is below a bound one is
pub lesser-left : (xs : List ℕ) (i : ℕ) → i < length (pair_least xs) → 2 * i < length xs
lesser-left xs i within = let long : length (pair_least xs) ≡ (length xs + 1) / 2 = length-pair_least xs in omega (arith, long, within)

pub lesser-right : (xs : List ℕ) (i bound : ℕ) → i < length (pair_least xs) → get_or (pair_least xs) i 0 < bound → bound ≤ get_or xs (2 * i) 0 → (2 * i + 1 < length xs) × (get_or xs (2 * i + 1) 0 < bound)
lesser-right xs i bound within below over = elim (cases_lt (2 * i + 1) (length xs)) [
  | inl both ↦ let is : get_or (pair_least xs) i 0 ≡ min (get_or xs (2 * i) 0) (get_or xs (2 * i + 1) 0) = pair_least-both xs i both in (both, omega (arith, is, below, over))
  | inr past ↦
      let left : 2 * i < length xs = lesser-left xs i within in
      let odd : 2 * i + 1 ≡ length xs = omega (arith, left, past) in
      let is : get_or (pair_least xs) i 0 ≡ get_or xs (2 * i) 0 = pair_least-last xs i odd in
      absurd (omega (arith, is, below, over))
]
