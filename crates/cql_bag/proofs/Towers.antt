-- What the levels of a tower say of its list.
use Rattle.std.proofs.Common.{◌≡◌, ℕ, zero, suc, ◌+◌, ◌-◌, ◌<◌, ◌≤◌, List, [], ◌∷◌, ◌++◌, length, refl, ap, sym, ◌∙◌, arith, get_or, set, Some, None, Bool, true, false, eqb, ◌≢◌, subst}
use Rattle.std.proofs.lemmas.Bool.Decides.{nat_tests}
use Rattle.std.proofs.lemmas.List.{get_or-set_same, get_or-set_other, map-set, set-get_or}
use Rattle.std.specs.Prelude.{Vec, MatchOption, ⊤, vec_len, vec_capacity}
use Rattle.std.specs.declared.alloc.Global.{Global}
use Rattle.cql_bag.specs.Levels.{pair_least, least_of, halved, lists_of, level_at, IsTower}
use Rattle.cql_bag.proofs.Pairs.{least_of-halved, length-halved}

-- the numbers of the level that stands at an index
pub level_at-item : (levels : List (Vec ℕ Global)) (k : ℕ) (v : Vec ℕ Global) → k < length levels → v ≡ get_or levels k v → level_at (lists_of levels) k ≡ v.items
level_at-item [] k v within is = absurd (omega (arith, within))
level_at-item (w ∷ rest) zero v within is = ap (λ u. u.items) (sym is)
level_at-item (w ∷ rest) (suc k) v within is = let inner : k < length rest = omega (arith, within) in level_at-item rest k v inner is

pub length-lists_of : (levels : List (Vec ℕ Global)) → length (lists_of levels) ≡ length levels
length-lists_of [] = refl
length-lists_of (w ∷ rest) = ap suc (length-lists_of rest)

-- the least of a tower is that of its top
pub least_of-top : (levels : List (List ℕ)) → IsTower levels → 0 < length levels → least_of (level_at levels 0) ≡ least_of (level_at levels (length levels - 1))
least_of-top levels tower some =
    let k = length levels - 1 in
    let within : length levels - 1 < length levels = omega (arith, some) in
    sym (ap least_of (tower.pairs k within) ∙ least_of-halved k (level_at levels 0))

-- the least of at most one number
pub least_of-one : (xs : List ℕ) → length xs ≤ 1 → 0 < length xs → least_of xs ≡ Some (get_or xs 0 0)
least_of-one [] short some = absurd (omega (arith, some))
least_of-one (x ∷ []) short some = refl
least_of-one (x ∷ y ∷ rest) short some = absurd (omega (arith, short))

-- the item that stands last has the numbers of the top
pub top-item : (levels : List (Vec ℕ Global)) (v : Vec ℕ Global) → 0 < length levels → v ≡ get_or levels (length levels - 1) v → level_at (lists_of levels) (length (lists_of levels) - 1) ≡ v.items
top-item levels v some is =
    let within : length levels - 1 < length levels = omega (arith, some) in
    rw (length-lists_of levels) (level_at-item levels (length levels - 1) v within is)

-- the least of a tower is that of the item that stands last, which has at most one
pub least_of-item : (levels : List (Vec ℕ Global)) (v : Vec ℕ Global) → IsTower (lists_of levels) → 0 < length levels → v ≡ get_or levels (length levels - 1) v → least_of (level_at (lists_of levels) 0) ≡ least_of v.items
least_of-item levels v tower some is =
    let more : 0 < length (lists_of levels) = rw (length-lists_of levels) some in
    least_of-top (lists_of levels) tower more ∙ ap least_of (top-item levels v some is)

pub item-short : (levels : List (Vec ℕ Global)) (v : Vec ℕ Global) → IsTower (lists_of levels) → 0 < length levels → v ≡ get_or levels (length levels - 1) v → length v.items ≤ 1
item-short levels v tower some is =
    let same : length (level_at (lists_of levels) (length (lists_of levels) - 1)) ≡ length v.items = ap length (top-item levels v some is) in
    let top : length (level_at (lists_of levels) (length (lists_of levels) - 1)) ≤ 1 = tower.top in
    omega (arith, same, top)

pub least_of-none : (xs : List ℕ) → length xs ≡ 0 → least_of xs ≡ None
least_of-none [] none = refl
least_of-none (x ∷ xs) none = absurd (omega (arith, none))

pub none-empty : (xs : List ℕ) → least_of xs ≡ None → xs ≡ []
none-empty [] none = refl
none-empty (x ∷ xs) none = absurd (subst (λ o. MatchOption o ⊥ (λ _. ⊤)) none tt)

-- levels that all pair a list as long as the old one are a tower again
pub tower-again : (old new : List (List ℕ)) (ys : List ℕ) → IsTower old → length new ≡ length old → ((k : ℕ) → k < length new → level_at new k ≡ halved k ys) → length ys ≡ length (level_at old 0) → IsTower new
tower-again old [] ys tower count all same = record { pairs = λ k within. absurd (omega (arith, within)); top = omega arith }
tower-again old (r ∷ new) ys tower count all same =
    let first : r ≡ ys = all 0 (omega arith) in
    let last : level_at (r ∷ new) (length new) ≡ halved (length new) ys = all (length new) (omega arith) in
    let under : length new < length old = omega (arith, count) in
    let is_top : length old - 1 ≡ length new = omega (arith, count) in
    let was : level_at old (length new) ≡ halved (length new) (level_at old 0) = tower.pairs (length new) under in
    let long : length (halved (length new) ys) ≡ length (halved (length new) (level_at old 0)) = length-halved (length new) ys (level_at old 0) same in
    let short : length (level_at old (length old - 1)) ≤ 1 = tower.top in
    let short_here : length (level_at old (length new)) ≤ 1 = subst (λ n. length (level_at old n) ≤ 1) is_top short in
    let chain : length (level_at (r ∷ new) (length new)) ≡ length (level_at old (length new)) = ap length last ∙ long ∙ sym (ap length was) in
    record {
      pairs = λ k within. all k within ∙ ap (halved k) (sym first);
      top = let e : length (r ∷ new) - 1 ≡ length new = omega arith in rw e (let few : length (level_at (r ∷ new) (length new)) ≤ 1 = omega (arith, chain, short_here) in few);
    }

-- one more level done
pub done-more : (levels : List (List ℕ)) (j : ℕ) (row ys : List ℕ) → j < length levels → ((k : ℕ) → k < j → level_at levels k ≡ halved k ys) → row ≡ halved j ys → (k : ℕ) → k < j + 1 → level_at (set levels j row) k ≡ halved k ys
done-more levels j row ys within done is k below = by (eqb k j) refl
  where
    by : (b : Bool) → eqb k j ≡ b → level_at (set levels j row) k ≡ halved k ys
    by true same = let e : k ≡ j = grind (arith, nat_tests, same) in rw e (get_or-set_same levels j row [] within ∙ is)
    by false other = let ne : k ≢ j = grind (arith, nat_tests, other) in let less : k < j = omega (arith, ne, below) in get_or-set_other levels j k row [] ne ∙ done k less

-- no level ahead of the changed one is touched
pub ahead-other : (levels : List (List ℕ)) (j k : ℕ) (row ys : List ℕ) → j + 1 ≤ k → level_at levels k ≡ ys → level_at (set levels j row) k ≡ ys
ahead-other levels j k row ys above is = let ne : k ≢ j = omega (arith, above) in get_or-set_other levels j k row [] ne ∙ is

pub lists_of-set : (levels : List (Vec ℕ Global)) (j : ℕ) (v : Vec ℕ Global) → lists_of (set levels j v) ≡ set (lists_of levels) j v.items
lists_of-set levels j v = map-set (λ u. u.items) levels j v

-- an item with the same numbers changes no list
pub lists_of-same : (levels : List (Vec ℕ Global)) (j : ℕ) (v w : Vec ℕ Global) → j < length levels → v ≡ get_or levels j v → w.items ≡ v.items → lists_of (set levels j w) ≡ lists_of levels
lists_of-same levels j v w within is same =
    let row : w.items ≡ level_at (lists_of levels) j = same ∙ sym (level_at-item levels j v within is) in
    lists_of-set levels j w ∙ ap (λ r. set (lists_of levels) j r) row ∙ set-get_or (lists_of levels) j []

-- one more level with room
pub room-more : (levels : List (Vec ℕ Global)) (j : ℕ) (w : Vec ℕ Global) → j < length levels → ((k : ℕ) (d : Vec ℕ Global) → k < j → vec_len (get_or levels k d) < vec_capacity (get_or levels k d)) → vec_len w < vec_capacity w → (k : ℕ) (d : Vec ℕ Global) → k < j + 1 → vec_len (get_or (set levels j w) k d) < vec_capacity (get_or (set levels j w) k d)
room-more levels j w within room here k d below = by (eqb k j) refl
  where
    by : (b : Bool) → eqb k j ≡ b → vec_len (get_or (set levels j w) k d) < vec_capacity (get_or (set levels j w) k d)
    by true same = let e : k ≡ j = grind (arith, nat_tests, same) in rw e (rw (get_or-set_same levels j w d within) here)
    by false other = let ne : k ≢ j = grind (arith, nat_tests, other) in let less : k < j = omega (arith, ne, below) in rw (get_or-set_other levels j k w d ne) (room k d less)

-- the levels ahead keep their room
pub room-ahead : (levels : List (Vec ℕ Global)) (j k : ℕ) (w d : Vec ℕ Global) → j + 1 ≤ k → vec_len (get_or levels k d) < vec_capacity (get_or levels k d) → vec_len (get_or (set levels j w) k d) < vec_capacity (get_or (set levels j w) k d)
room-ahead levels j k w d above room = let ne : k ≢ j = omega (arith, above) in rw (get_or-set_other levels j k w d ne) room

-- one more level at the end
pub lists_of-push : (levels : List (Vec ℕ Global)) (v : Vec ℕ Global) (row : List ℕ) → v.items ≡ row → lists_of (levels ++ v ∷ []) ≡ lists_of levels ++ row ∷ []
lists_of-push [] v row is = ap (λ r. r ∷ []) is
lists_of-push (w ∷ levels) v row is = ap (λ l. w.items ∷ l) (lists_of-push levels v row is)

-- each level is the pairs of the one below
pub tower-next : (levels : List (List ℕ)) (j k : ℕ) → IsTower levels → j ≡ k + 1 → j < length levels → level_at levels j ≡ pair_least (level_at levels k)
tower-next levels j k tower is within =
    let e : j ≡ suc k = omega (arith, is) in
    let under : k < length levels = omega (arith, is, within) in
    tower.pairs j within ∙ ap (λ n. halved n (level_at levels 0)) e ∙ ap pair_least (sym (tower.pairs k under))

-- a least number stands at the top
pub some-levels : (levels : List (List ℕ)) (m : ℕ) → Some m ≡ least_of (level_at levels 0) → 0 < length levels
some-levels [] m is = absurd (let none : least_of (level_at [] 0) ≡ None = refl in cc)
some-levels (l ∷ levels) m is = omega arith

top-of : (xs : List ℕ) (m : ℕ) → length xs ≤ 1 → Some m ≡ least_of xs → (0 < length xs) × (get_or xs 0 0 ≡ m)
top-of [] m short is = absurd (let none : least_of [] ≡ None = refl in cc)
top-of (x ∷ []) m short is = (omega arith, (let e : Some m ≡ Some x = is in cc))
top-of (x ∷ y ∷ rest) m short is = absurd (omega (arith, short))

pub top-least : (levels : List (List ℕ)) (m : ℕ) → IsTower levels → Some m ≡ least_of (level_at levels 0) → (0 < length (level_at levels (length levels - 1))) × (get_or (level_at levels (length levels - 1)) 0 0 ≡ m)
top-least levels m tower is = top-of (level_at levels (length levels - 1)) m tower.top (is ∙ least_of-top levels tower (some-levels levels m is))
