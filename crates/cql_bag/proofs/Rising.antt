-- One more level on a tower whose top has two numbers.
use Rattle.std.proofs.Common.{◌≡◌, ℕ, zero, suc, ◌+◌, ◌-◌, ◌/◌, ◌<◌, ◌≤◌, List, [], ◌∷◌, ◌++◌, length, refl, ap, sym, ◌∙◌, arith, Bool, true, false, eqb, ◌≢◌, get_or, subst}
use Rattle.std.proofs.lemmas.Bool.Decides.{nat_tests}
use Rattle.cql_bag.specs.Levels.{pair_least, halved, level_at, put, IsTower, ArePairsOf}
use Rattle.cql_bag.proofs.Pairs.{length-pair_least, put-push}

-- a list longer by one at most is so after pairings
pub length-halved_more : (k : ℕ) (xs ys : List ℕ) → length ys ≤ length xs + 1 → length (halved k ys) ≤ length (halved k xs) + 1
length-halved_more zero xs ys more = more
length-halved_more (suc k) xs ys more =
    let inner : length (halved k ys) ≤ length (halved k xs) + 1 = length-halved_more k xs ys more in
    let left : length (pair_least (halved k ys)) ≡ (length (halved k ys) + 1) / 2 = length-pair_least (halved k ys) in
    let right : length (pair_least (halved k xs)) ≡ (length (halved k xs) + 1) / 2 = length-pair_least (halved k xs) in
    omega (arith, inner, left, right)

level_at-left : (levels : List (List ℕ)) (row : List ℕ) (k : ℕ) → k < length levels → level_at (levels ++ row ∷ []) k ≡ level_at levels k
level_at-left [] row k within = absurd (omega (arith, within))
level_at-left (l ∷ levels) row zero within = refl
level_at-left (l ∷ levels) row (suc k) within = let inner : k < length levels = omega (arith, within) in level_at-left levels row k inner

level_at-end : (levels : List (List ℕ)) (row : List ℕ) → level_at (levels ++ row ∷ []) (length levels) ≡ row
level_at-end [] row = refl
level_at-end (l ∷ levels) row = level_at-end levels row

length-more : (levels : List (List ℕ)) (row : List ℕ) → length (levels ++ row ∷ []) ≡ length levels + 1
length-more [] row = refl
length-more (l ∷ levels) row = let e : length (levels ++ row ∷ []) ≡ length levels + 1 = length-more levels row in omega (arith, e)

pub pairs-append : (levels : List (List ℕ)) (row ys : List ℕ) → 0 < length levels → ArePairsOf ys levels → row ≡ pair_least (level_at levels (length levels - 1)) → ArePairsOf ys (levels ++ row ∷ [])
pairs-append levels row ys some all is k within = by (eqb k (length levels)) refl
  where
    by : (b : Bool) → eqb k (length levels) ≡ b → level_at (levels ++ row ∷ []) k ≡ halved k ys
    by true same =
        let e : k ≡ length levels = grind (arith, nat_tests, same) in
        let next : length levels ≡ suc (length levels - 1) = omega (arith, some) in
        let top : row ≡ halved (suc (length levels - 1)) ys = is ∙ ap pair_least (all (length levels - 1) (let u : length levels - 1 < length levels = omega (arith, some) in u)) in
        rw e (level_at-end levels row ∙ top ∙ ap (λ n. halved n ys) (sym next))
    by false other =
        let ne : k ≢ length levels = grind (arith, nat_tests, other) in
        let long : length (levels ++ row ∷ []) ≡ length levels + 1 = length-more levels row in
        let less : k < length levels = omega (arith, ne, long, within) in
        level_at-left levels row k less ∙ all k less

-- levels that pair a list are a tower once the last has at most one
pub tower-pairs : (levels : List (List ℕ)) (ys : List ℕ) → ArePairsOf ys levels → length (level_at levels (length levels - 1)) ≤ 1 → IsTower levels
tower-pairs levels ys all short = record { pairs = λ k within. all k within ∙ ap (halved k) (sym (all 0 (let e : 0 < length levels = omega (arith, within) in e))); top = short }

-- after one more number the top has at most two
pub top-few : (old new : List (List ℕ)) (ys : List ℕ) → IsTower old → length new ≡ length old → 0 < length new → ArePairsOf ys new → length ys ≤ length (level_at old 0) + 1 → length (level_at new (length new - 1)) ≤ 2
top-few old new ys tower count some all more =
    let k = length new - 1 in
    let within : length new - 1 < length new = omega (arith, some) in
    let under : length new - 1 < length old = omega (arith, some, count) in
    let is : length (level_at new k) ≡ length (halved k ys) = ap length (all k within) in
    let was : length (level_at old k) ≡ length (halved k (level_at old 0)) = ap length (tower.pairs k under) in
    let top : length (level_at old (length old - 1)) ≤ 1 = tower.top in
    let short : length (level_at old k) ≤ 1 = subst (λ n. length (level_at old (n - 1)) ≤ 1) (sym count) top in
    let rise : length (halved k ys) ≤ length (halved k (level_at old 0)) + 1 = length-halved_more k (level_at old 0) ys more in
    omega (arith, is, was, short, rise)

pair_least-two : (xs : List ℕ) (n : ℕ) → length xs ≤ 2 → 1 < length xs → n ≡ get_or (pair_least xs) 0 0 → n ∷ [] ≡ pair_least xs
pair_least-two [] n few some is = absurd (omega (arith, some))
pair_least-two (x ∷ []) n few some is = absurd (omega (arith, some))
pair_least-two (x ∷ y ∷ []) n few some is = ap (λ m. m ∷ []) is
pair_least-two (x ∷ y ∷ z ∷ rest) n few some is = absurd (omega (arith, few))

-- levels that pair a list, with one more on top that pairs the two numbers of the last
pub tower-more : (levels : List (List ℕ)) (ys : List ℕ) (n : ℕ) → 0 < length levels → ArePairsOf ys levels → length (level_at levels (length levels - 1)) ≤ 2 → 1 < length (level_at levels (length levels - 1)) → n ≡ get_or (pair_least (level_at levels (length levels - 1))) 0 0 → IsTower (levels ++ (n ∷ []) ∷ []) × (level_at (levels ++ (n ∷ []) ∷ []) 0 ≡ ys)
tower-more levels ys n some all few two is =
    let row : n ∷ [] ≡ pair_least (level_at levels (length levels - 1)) = pair_least-two (level_at levels (length levels - 1)) n few two is in
    let pairs : ArePairsOf ys (levels ++ (n ∷ []) ∷ []) = pairs-append levels (n ∷ []) ys some all row in
    let long : length (levels ++ (n ∷ []) ∷ []) ≡ length levels + 1 = length-more levels (n ∷ []) in
    let last : length (levels ++ (n ∷ []) ∷ []) - 1 ≡ length levels = omega (arith, long) in
    let one : length (level_at (levels ++ (n ∷ []) ∷ []) (length levels)) ≡ 1 = ap length (level_at-end levels (n ∷ [])) in
    let top : length (level_at (levels ++ (n ∷ []) ∷ []) (length (levels ++ (n ∷ []) ∷ []) - 1)) ≤ 1 = subst (λ k. length (level_at (levels ++ (n ∷ []) ∷ []) k) ≤ 1) (sym last) (omega (arith, one)) in
    (tower-pairs (levels ++ (n ∷ []) ∷ []) ys pairs top, pairs 0 (omega (arith, long)))

pub length-put_end : (xs : List ℕ) (p v : ℕ) → p ≡ length xs → length (put xs p v) ≡ length xs + 1
length-put_end xs p v is = ap length (put-push xs p v is) ∙ length-one xs v
  where
    length-one : (xs : List ℕ) (v : ℕ) → length (xs ++ v ∷ []) ≡ length xs + 1
    length-one [] v = refl
    length-one (x ∷ xs) v = let e : length (xs ++ v ∷ []) ≡ length xs + 1 = length-one xs v in omega (arith, e)
