-- Many numbers changed in one walk.
use Rattle.std.proofs.Common.{◌≡◌, ℕ, zero, suc, ◌+◌, ◌-◌, ◌<◌, ◌≤◌, false, List, [], ◌∷◌, ◌++◌, length, refl, ap, sym, ◌∙◌, arith, get_or, set, cond, nat_lt, min, take, drop, subst, ◌⊎◌, inl, inr}
use Rattle.std.proofs.lemmas.Bool.{cases_lt}
use Rattle.std.proofs.lemmas.Bool.Decides.{nat_tests}
use Rattle.std.proofs.lemmas.Grind.{same_number_lists, get_or_default_zero}
use Rattle.std.specs.Prelude.{Vec}
use Rattle.std.specs.declared.alloc.Global.{Global}
use Rattle.cql_bag.specs.Levels.{pair_least, halved, changed_where, lists_of, level_at, IsTower, ArePairsOf, AreAsLong}
use Rattle.cql_bag.proofs.Pairs.{length-halved}
use Rattle.cql_bag.proofs.Towers.{tower-again, length-lists_of, lists_of-set, level_at-item}
use Rattle.std.proofs.lemmas.List.{get_or-set_same, length-set, get_or_past, drop_all, take_all, append-nil, get_or-take, get_or-drop}

pub length-changed_where : (ys : List ℕ) (b v : ℕ) (xs : List ℕ) → length (changed_where ys b v xs) ≡ length xs
length-changed_where [] b v xs = refl
length-changed_where (y ∷ ys) b v [] = refl
length-changed_where (y ∷ ys) b v (x ∷ xs) = ap suc (length-changed_where ys b v xs)

pub changed_none : (ys : List ℕ) (b v : ℕ) (xs : List ℕ) → xs ≡ [] → xs ≡ changed_where ys b v xs
changed_none ys b v xs none = rw none (nil ys)
  where
    nil : (ys : List ℕ) → [] ≡ changed_where ys b v []
    nil [] = refl
    nil (y ∷ ys) = refl

pub no_levels : (items : List (Vec ℕ Global)) → length items ≡ 0 → level_at (lists_of items) 0 ≡ []
no_levels [] none = refl
no_levels (w ∷ items) none = absurd (omega (arith, none))

-- past the other list no number is changed
pub changed_at : (ys : List ℕ) (b v : ℕ) (xs : List ℕ) (k d : ℕ) → k < length xs → get_or (changed_where ys b v xs) k d ≡ cond (nat_lt (get_or ys k b) b) v (get_or xs k d)
changed_at [] b v xs k d within = let no : nat_lt b b ≡ false = grind (arith, nat_tests) in rw no refl
changed_at (y ∷ ys) b v [] k d within = absurd (omega (arith, within))
changed_at (y ∷ ys) b v (x ∷ xs) zero d within = refl
changed_at (y ∷ ys) b v (x ∷ xs) (suc k) d within = let inner : k < length xs = omega (arith, within) in changed_at ys b v xs k d inner

-- a walk over all numbers
pub changed_low : (xs now : List ℕ) (b v n : ℕ) → length now ≤ n → length now ≡ length xs → ((k : ℕ) → k < n → get_or now k 0 ≡ cond (nat_lt (get_or xs k 0) b) v (get_or xs k 0)) → now ≡ changed_where xs b v xs
changed_low xs now b v n past count done =
    same_number_lists now (changed_where xs b v xs) (count ∙ sym (length-changed_where xs b v xs)) (λ k within.
    let inner : k < length xs = omega (arith, within, count) in
    let below : k < n = omega (arith, within, past) in
    let low : get_or xs k 0 ≡ get_or xs k b = sym (get_or_default_zero xs k b inner) in
    done k below ∙ ap (λ m. cond (nat_lt m b) v (get_or xs k 0)) low ∙ sym (changed_at xs b v xs k 0 inner))

-- a walk over all numbers that have one beside them
pub changed_beside : (ys xs now : List ℕ) (b v n : ℕ) → (length now ≤ n) ⊎ (length ys ≤ n) → length now ≡ length xs → ((k : ℕ) → k < n → get_or now k 0 ≡ cond (nat_lt (get_or ys k b) b) v (get_or xs k 0)) → ((k : ℕ) → n ≤ k → get_or now k 0 ≡ get_or xs k 0) → now ≡ changed_where ys b v xs
changed_beside ys xs now b v n past count done ahead =
    same_number_lists now (changed_where ys b v xs) (count ∙ sym (length-changed_where ys b v xs)) (λ k within.
    let inner : k < length xs = omega (arith, within, count) in
    each k within ∙ sym (changed_at ys b v xs k 0 inner))
  where
    each : (k : ℕ) → k < length now → get_or now k 0 ≡ cond (nat_lt (get_or ys k b) b) v (get_or xs k 0)
    each k within = elim (cases_lt k n) [
      | inl below ↦ done k below
      | inr above ↦ elim past [
        | inl all ↦ absurd (omega (arith, above, all, within))
        | inr few ↦
            let none : get_or ys k b ≡ b = get_or_past ys k b (omega (arith, above, few)) in
            let no : nat_lt b b ≡ false = grind (arith, nat_tests) in
            rw none (rw no (ahead k above))
      ]
    ]

-- ---- the levels are made anew from below

set_parts : (items : List (Vec ℕ Global)) (j : ℕ) (w : Vec ℕ Global) → j < length items → take j items ++ set (drop j items) 0 w ≡ set items j w
set_parts [] j w within = absurd (omega (arith, within))
set_parts (x ∷ items) zero w within = refl
set_parts (x ∷ items) (suc j) w within = ap (λ l. x ∷ l) (let inner : j < length items = omega (arith, within) in set_parts items j w inner)

-- the first of the second part of a list is changed, and the parts are joined
pub joined_set : (items front back : List (Vec ℕ Global)) (n j : ℕ) (w : Vec ℕ Global) → n ≡ length items → j < length items → front ≡ take j items → back ≡ drop j items → take n (front ++ set back 0 w ++ drop (length (front ++ set back 0 w)) items) ≡ set items j w
joined_set items front back n j w long within before behind =
    let whole : front ++ set back 0 w ≡ set items j w = rw before (rw behind (set_parts items j w within)) in
    let count : length (front ++ set back 0 w) ≡ length items = ap length whole ∙ length-set items j w in
    let none : drop (length (front ++ set back 0 w)) items ≡ [] = drop_all (length (front ++ set back 0 w)) items (omega (arith, count)) in
    ap (λ l. take n (front ++ set back 0 w ++ l)) none ∙ ap (take n) (append-nil (front ++ set back 0 w)) ∙ ap (take n) whole ∙ take_all n (set items j w) (let e : length (set items j w) ≡ length items = length-set items j w in omega (arith, e, long))

-- the level at an index is as long as the pairs of the one below it, which is done
pub pairs_fit : (items : List (Vec ℕ Global)) (old : List (List ℕ)) (j : ℕ) (v w : Vec ℕ Global) → 0 < j → j < length items → v ≡ get_or items (j - 1) v → w ≡ get_or items j w → level_at (lists_of items) (j - 1) ≡ halved (j - 1) (level_at old 0) → level_at (lists_of items) j ≡ level_at old j → length (level_at old j) ≡ length (halved j (level_at old 0)) → length w.items ≡ length (pair_least v.items)
pairs_fit items old j v w some within below here done ahead long =
    let under : j - 1 < length items = omega (arith, within) in
    let low : v.items ≡ halved (j - 1) (level_at old 0) = sym (level_at-item items (j - 1) v under below) ∙ done in
    let next : j ≡ suc (j - 1) = omega (arith, some) in
    let row : w.items ≡ level_at old j = sym (level_at-item items j w within here) ∙ ahead in
    ap length row ∙ long ∙ ap (λ k. length (halved k (level_at old 0))) next ∙ ap (λ l. length (pair_least l)) (sym low)

-- and once it is these pairs it is done
pub pairs_next : (items : List (Vec ℕ Global)) (old : List (List ℕ)) (j : ℕ) (v : Vec ℕ Global) (row : List ℕ) → 0 < j → j < length items → v ≡ get_or items (j - 1) v → level_at (lists_of items) (j - 1) ≡ halved (j - 1) (level_at old 0) → row ≡ pair_least v.items → row ≡ halved j (level_at old 0)
pairs_next items old j v row some within below done is =
    let under : j - 1 < length items = omega (arith, within) in
    let low : v.items ≡ halved (j - 1) (level_at old 0) = sym (level_at-item items (j - 1) v under below) ∙ done in
    let next : j ≡ suc (j - 1) = omega (arith, some) in
    is ∙ ap pair_least low ∙ ap (λ k. halved k (level_at old 0)) (sym next)

-- a tower is as long as its pairings, and so it is with its numbers changed
pub changed_long : (levels : List (List ℕ)) (row : List ℕ) → IsTower levels → length row ≡ length (level_at levels 0) → AreAsLong (set levels 0 row)
changed_long [] row tower same = λ k within. absurd (omega (arith, within))
changed_long (l ∷ levels) row tower same = each
  where
    each : AreAsLong (row ∷ levels)
    each zero within = refl
    each (suc k) within =
        ap length (tower.pairs (suc k) (let e : suc k < length (l ∷ levels) = omega (arith, within) in e)) ∙ length-halved (suc k) l row (sym same)

pub min_past : (m n k : ℕ) → min m n ≤ k → (m ≤ k) ⊎ (n ≤ k)
min_past m n k past = elim (cases_lt k m) [ inl low ↦ inr (omega (arith, past, low)) | inr high ↦ inl high ]

pub of_front : (items front : List (Vec ℕ Global)) (j : ℕ) (v : Vec ℕ Global) → 0 < j → front ≡ take j items → v ≡ get_or front (j - 1) v → v ≡ get_or items (j - 1) v
of_front items front j v some before is = is ∙ ap (λ l. get_or l (j - 1) v) before ∙ get_or-take j items (j - 1) v (omega (arith, some))

pub of_back : (items back : List (Vec ℕ Global)) (j : ℕ) (w : Vec ℕ Global) → back ≡ drop j items → w ≡ get_or back 0 w → w ≡ get_or items j w
of_back items back j w behind is = is ∙ ap (λ l. get_or l 0 w) behind ∙ get_or-drop j items 0 w ∙ ap (λ k. get_or items k w) (let e : j + 0 ≡ j = omega arith in e)

-- ---- the whole

-- levels of which the lowest was changed, and those above it were made anew, are a tower again
pub tower-changed : (items mid new : List (Vec ℕ Global)) (w : Vec ℕ Global) → IsTower (lists_of items) → 0 < length items → mid ≡ set items 0 w → length w.items ≡ length (level_at (lists_of items) 0) → length new ≡ length mid → ArePairsOf (level_at (lists_of mid) 0) (lists_of new) → IsTower (lists_of new) × (level_at (lists_of new) 0 ≡ w.items)
tower-changed items mid new w tower some is same count all =
    let lists : lists_of mid ≡ set (lists_of items) 0 w.items = ap lists_of is ∙ lists_of-set items 0 w in
    let any : 0 < length (lists_of items) = let e : length (lists_of items) ≡ length items = length-lists_of items in omega (arith, e, some) in
    let low : level_at (lists_of mid) 0 ≡ w.items = ap (λ l. level_at l 0) lists ∙ get_or-set_same (lists_of items) 0 w.items [] any in
    let long : length new ≡ length items = count ∙ ap length is ∙ length-set items 0 w in
    let longs : length (lists_of new) ≡ length (lists_of items) = length-lists_of new ∙ long ∙ sym (length-lists_of items) in
    let every : ArePairsOf w.items (lists_of new) = subst (λ l. ArePairsOf l (lists_of new)) low all in
    (tower-again (lists_of items) (lists_of new) w.items tower longs every same, every 0 (omega (arith, any, longs)))

-- which may be asked of the changed levels
pub long-changed : (items mid : List (Vec ℕ Global)) (w : Vec ℕ Global) → IsTower (lists_of items) → mid ≡ set items 0 w → length w.items ≡ length (level_at (lists_of items) 0) → AreAsLong (lists_of mid)
long-changed items mid w tower is same = rw (ap lists_of is ∙ lists_of-set items 0 w) (changed_long (lists_of items) w.items tower same)
