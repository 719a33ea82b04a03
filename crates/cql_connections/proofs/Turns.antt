-- The order of the owners' turns, as lines get longer and shorter.
use Rattle.std.proofs.Common.{◌≡◌, ◌≢◌, ℕ, ◌+◌, ◌<◌, ◌≤◌, zero, suc, Bool, true, false, eq-eqb, add-zero, mul-zero, List, [], ◌∷◌, ◌++◌, length, cond, min, refl, sym, ap, ◌∙◌, subst, arith, take, drop, slice_index_or, slice_set}
use Rattle.std.specs.Prelude.{◌==◌, ◌-◌, if◌then◌else◌, map, not, replicate}
use borrow.Author.Tests.{eqb-true}
use Rattle.std.specs.List.{sum_by, count_by, filter}
use Rattle.std.proofs.lemmas.List.{map-set, length_push, length-map, get_or-map, append-nil, take-append-drop, get_or-set_same, get_or-set_other}
use Rattle.std.proofs.Math.Seq.{drop-cons, map-set_same}
use Rattle.std.proofs.lemmas.List.Sums.{sum_by_push, sum_by-cons, sum_by-set, sum_by-append, sum_by-take-drop}
use Rattle.std.proofs.lemmas.List.Folds.{sum_by-replicate}
use Rattle.std.proofs.lemmas.Grind.{common_steps}
use Rattle.cql_connections.specs.Turns.{IsOrder, line_of, size_of, turns_of}
use Rattle.cql_connections.specs.Queues.{IsPushed, IsRemoved, IsTaken, behind, joined, left}

-- one where the owner is this one
abbrev one_if : ℕ → ℕ → ℕ
one_if owner other = cond (owner == other) 1 0

turns-push : (order : List ℕ) (owner other : ℕ) → turns_of (order ++ owner ∷ []) other ≡ turns_of order other + one_if owner other
unfolding turns_of
turns-push order owner other = sum_by_push (λ one. cond (one == other) 1 0) order owner

turns-cons : (order : List ℕ) (owner other : ℕ) → turns_of (owner ∷ order) other ≡ one_if owner other + turns_of order other
unfolding turns_of
turns-cons order owner other = sum_by-cons (λ one. cond (one == other) 1 0) owner order

one_if-same : (owner : ℕ) → one_if owner owner ≡ 1
one_if-same owner = ap (λ b. cond b 1 0) (eq-eqb owner owner refl)

one_if-other : (owner other : ℕ) → (owner == other) ≡ false → one_if owner other ≡ 0
one_if-other owner other ne = ap (λ b. cond b 1 0) ne

pub first_is : (order : List ℕ) (owner : ℕ) → owner ≡ slice_index_or order 0 owner → 0 < length order → order ≡ owner ∷ drop 1 order
first_is [] owner e some = absurd (omega arith)
first_is (x ∷ order) owner e some = ap (λ y. y ∷ order) (sym e)

module _ {T : Type 0} where
  pub size-set : (lines : List (List T)) (owner : ℕ) (line : List T) → owner < length lines → size_of (slice_set lines owner line) + length (line_of lines owner) ≡ size_of lines + length line
  unfolding size_of
  size-set lines owner line within = sum_by-set (λ one. length one) lines owner line [] within

  -- of whose turn it is something waits
  pub next_waits : (lines : List (List T)) (owner : ℕ) (rest : List ℕ) → IsOrder lines (owner ∷ rest) → 1 ≤ length (line_of lines owner)
  next_waits lines owner rest is = omega (arith, is.once owner, turns-cons rest owner owner, one_if-same owner)

  pub within : (lines : List (List T)) (owner : ℕ) → 1 ≤ length (line_of lines owner) → owner < length lines
  within [] owner some = absurd (omega arith)
  within (line ∷ lines) zero some = omega arith
  within (line ∷ lines) (suc owner) some = let h = within lines owner some in omega arith

  -- one line changes, and by as much its owner's turns
  changed : (lines : List (List T)) (order turns : List ℕ) (owner : ℕ) (line : List T) → IsOrder lines order → owner < length lines → turns_of turns owner ≡ min 1 (length line) → ((other : ℕ) → (owner == other) ≡ false → turns_of turns other ≡ turns_of order other) → IsOrder (slice_set lines owner line) turns
  changed lines order turns owner line is lt own rest = record { once = λ other. at other (owner == other) refl } where
    at : (other : ℕ) (b : Bool) → (owner == other) ≡ b → turns_of turns other ≡ min 1 (length (line_of (slice_set lines owner line) other))
    at other true e = let same = eqb-true owner other e in subst (λ o. turns_of turns o ≡ min 1 (length (line_of (slice_set lines owner line) o))) same (rw (get_or-set_same lines owner line [] lt) own)
    at other false e = let ne : other ≢ owner = λ same. (let t = eq-eqb owner other (sym same) in cc) in rw (get_or-set_other lines owner other line [] ne) (rest other e ∙ is.once other)

  joins : (lines : List (List T)) (order : List ℕ) (owner : ℕ) (line l : List T) → l ≡ line_of lines owner → IsOrder lines order → owner < length lines → length line ≡ length l + 1 → IsOrder (slice_set lines owner line) (joined l owner order)
  joins lines order owner line [] e is lt longer =
      changed lines order (order ++ owner ∷ []) owner line is lt
      (omega (arith, turns-push order owner owner, one_if-same owner, is.once owner, ap length e))
      (λ other ne. omega (arith, turns-push order owner other, one_if-other owner other ne))
  joins lines order owner line (x ∷ l) e is lt longer =
      changed lines order order owner line is lt (omega (arith, is.once owner, ap length e)) (λ other ne. refl)

  passes : (lines : List (List T)) (rest : List ℕ) (owner : ℕ) (line : List T) → IsOrder lines (owner ∷ rest) → owner < length lines → IsOrder (slice_set lines owner line) (behind line owner rest)
  passes lines rest owner [] is lt =
      changed lines (owner ∷ rest) rest owner [] is lt
      (omega (arith, turns-cons rest owner owner, one_if-same owner, is.once owner))
      (λ other ne. omega (arith, turns-cons rest owner other, one_if-other owner other ne))
  passes lines rest owner (x ∷ line) is lt =
      changed lines (owner ∷ rest) (rest ++ owner ∷ []) owner (x ∷ line) is lt
      (omega (arith, turns-push rest owner owner, turns-cons rest owner owner, one_if-same owner, is.once owner))
      (λ other ne. omega (arith, turns-push rest owner other, turns-cons rest owner other, one_if-other owner other ne))

  turn_is : (order : List ℕ) (owner : ℕ) (line : List T) (b : Bool) → order ≡ owner ∷ drop 1 order → b ≡ (length line == 0) → drop 1 order ++ (if b then [] else take 1 order) ≡ behind line owner (drop 1 order)
  turn_is [] owner line b e is = absurd (cc)
  turn_is (x ∷ order) owner [] b e is = rw is (append-nil order)
  turn_is (x ∷ order) owner (y ∷ line) b e is = let some : (length (y ∷ line) == 0) ≡ false = grind arith in rw (is, some) (ap (λ z. order ++ z ∷ []) (ap (λ l. slice_index_or l 0 0) e))

module _ {T : Type 0} where
  pub joins_is : (order : List ℕ) (owner : ℕ) (line : List T) (b : Bool) → b ≡ (length line == 0) → order ++ (if b then owner ∷ [] else []) ≡ joined line owner order
  joins_is order owner [] b is = rw is refl
  joins_is order owner (x ∷ line) b is = let some : (length (x ∷ line) == 0) ≡ false = grind arith in rw (is, some) (append-nil order)

module _ {T X : Type 0} (f : X → List T) where
  line_at : (ds : List X) (owner : ℕ) (d : X) → owner < length ds → d ≡ slice_index_or ds owner d → line_of (map f ds) owner ≡ f d
  line_at ds owner d lt is = get_or-map f ds owner d [] lt ∙ ap f (sym is)

  -- the owner whose turn it is has a line
  pub next_has : (ds : List X) (order : List ℕ) (owner : ℕ) → IsOrder (map f ds) order → owner ≡ slice_index_or order 0 owner → 0 < length order → owner < length ds
  next_has ds order owner is e some =
      let w = next_waits (map f ds) owner (drop 1 order) (subst (IsOrder (map f ds)) (first_is order owner e some) is) in
      let h = within (map f ds) owner w in
      omega (arith, h, length-map ds f)

  -- of which something waits
  pub next_some : (ds : List X) (order : List ℕ) (owner : ℕ) (d : X) → IsOrder (map f ds) order → owner ≡ slice_index_or order 0 owner → 0 < length order → d ≡ slice_index_or ds owner d → 1 ≤ length (f d)
  next_some ds order owner d is e some at =
      let w = next_waits (map f ds) owner (drop 1 order) (subst (IsOrder (map f ds)) (first_is order owner e some) is) in
      subst (λ l. 1 ≤ length l) (line_at ds owner d (next_has ds order owner is e some) at) w

  pub takes : (ds : List X) (order orders : List ℕ) (count owner : ℕ) (d e : X) (item : T) (b : Bool) → IsOrder (map f ds) order → count ≡ size_of (map f ds) → owner ≡ slice_index_or order 0 owner → 0 < length order → d ≡ slice_index_or ds owner d → f d ≡ item ∷ f e → b ≡ (length (f e) == 0) → orders ≡ drop 1 order ++ (if b then [] else take 1 order) → IsOrder (map f (slice_set ds owner e)) orders × (1 ≤ count) × (count - 1 ≡ size_of (map f (slice_set ds owner e))) × IsTaken (record { lines = map f ds; order = order }) item (record { lines = map f (slice_set ds owner e); order = orders })
  takes ds order orders count owner d e item b is all first some at waits goes turn =
      let rest = drop 1 order in
      let next : order ≡ owner ∷ rest = first_is order owner first some in
      let was : IsOrder (map f ds) (owner ∷ rest) = subst (IsOrder (map f ds)) next is in
      let lt : owner < length ds = next_has ds order owner is first some in
      let lt2 : owner < length (map f ds) = within (map f ds) owner (next_waits (map f ds) owner rest was) in
      let line : line_of (map f ds) owner ≡ item ∷ f e = line_at ds owner d lt at ∙ waits in
      let set_is : map f (slice_set ds owner e) ≡ slice_set (map f ds) owner (f e) = map-set f ds owner e in
      let turn_at : orders ≡ behind (f e) owner rest = turn ∙ turn_is order owner (f e) b next goes in
      let n = size-set (map f ds) owner (f e) lt2 in
      let m = ap length line in
      rw (set_is, turn_at)
      (passes (map f ds) rest owner (f e) was lt2, omega (arith, n, m, all), omega (arith, n, m, all), record { owner = owner; rest = rest; line = f e; next = next; first = line; gone = refl; turn = refl })

  pub pushes : (ds : List X) (order orders : List ℕ) (count owner : ℕ) (d e : X) (item : T) (b : Bool) → IsOrder (map f ds) order → count ≡ size_of (map f ds) → owner < length ds → d ≡ slice_index_or ds owner d → f e ≡ f d ++ item ∷ [] → b ≡ (length (f d) == 0) → orders ≡ order ++ (if b then owner ∷ [] else []) → IsOrder (map f (slice_set ds owner e)) orders × (count + 1 ≡ size_of (map f (slice_set ds owner e))) × IsPushed (record { lines = map f ds; order = order }) owner item (record { lines = map f (slice_set ds owner e); order = orders })
  pushes ds order orders count owner d e item b is all lt at longer first turn =
      let lt2 : owner < length (map f ds) = omega (arith, lt, length-map ds f) in
      let line : line_of (map f ds) owner ≡ f d = line_at ds owner d lt at in
      let set_is : map f (slice_set ds owner e) ≡ slice_set (map f ds) owner (f e) = map-set f ds owner e in
      let turn_at : orders ≡ joined (f d) owner order = turn ∙ joins_is order owner (f d) b first in
      let n = size-set (map f ds) owner (f e) lt2 in
      let m = ap length line in
      let k : length (f e) ≡ length (f d) + 1 = ap length longer ∙ length_push (f d) item in
      rw (set_is, turn_at)
      (joins (map f ds) order owner (f e) (f d) (sym line) is lt2 k, omega (arith, n, m, all, k), record { last = ap (slice_set (map f ds) owner) (longer ∙ ap (λ l. l ++ item ∷ []) (sym line)); turn = ap (λ l. joined l owner order) (sym line) })

  -- a line that holds what it held leaves all as it was
  pub stays : (ds : List X) (order orders : List ℕ) (count owner : ℕ) (d e : X) → IsOrder (map f ds) order → count ≡ size_of (map f ds) → d ≡ slice_index_or ds owner d → f e ≡ f d → orders ≡ order → IsOrder (map f (slice_set ds owner e)) orders × (count ≡ size_of (map f (slice_set ds owner e))) × ((map f (slice_set ds owner e) ≡ map f ds) × (orders ≡ order))
  stays ds order orders count owner d e is all at same turn =
      let lines : map f (slice_set ds owner e) ≡ map f ds = map-set_same f ds owner e d (same ∙ ap f at) in
      rw (lines, turn) (is, all, (refl, refl))

-- of the order without an owner
kept : (order : List ℕ) (owner other : ℕ) → turns_of (filter (λ one. not (one == owner)) order) other ≡ cond (owner == other) 0 (turns_of order other)
unfolding turns_of
kept [] owner other = either-zero (owner == other)
  where
    either-zero : (b : Bool) → ◌≡◌ {A = ℕ} 0 (cond b 0 0)
    either-zero true = refl
    either-zero false = refl
kept (x ∷ order) owner other = step (x == owner) refl (owner == other) refl (λ c f. kept order owner other ∙ ap (λ d. cond d 0 (turns_of order other)) f)
  where
    rest : List ℕ
    rest = filter (λ one. not (one == owner)) order

    step : (b : Bool) → (x == owner) ≡ b → (c : Bool) → (owner == other) ≡ c → ((d : Bool) → (owner == other) ≡ d → turns_of rest other ≡ cond d 0 (turns_of order other)) → turns_of (cond (not b) (x ∷ rest) rest) other ≡ cond c 0 (turns_of (x ∷ order) other)
    step true e true f ih = ih true f
    step true e false f ih =
        let same = ap (λ o. one_if o other) (eqb-true x owner e) in
        omega (arith, ih false f, turns-cons order x other, same, one_if-other owner other f)
    step false e true f ih =
        let none : one_if x other ≡ 0 = ap (λ o. one_if x o) (sym (eqb-true owner other f)) ∙ one_if-other x owner e in
        omega (arith, ih true f, turns-cons rest x other, none)
    step false e false f ih = omega (arith, ih false f, turns-cons rest x other, turns-cons order x other)

turned : (order : List ℕ) (owners other : ℕ) → turns_of (drop owners order ++ take owners order) other ≡ turns_of order other
unfolding turns_of
turned order owners other =
    let test = λ (one : ℕ). cond (one == other) 1 0 in
    let a = sum_by-append test (drop owners order) (take owners order) in
    let b = sum_by-take-drop test order owners in
    omega (arith, a, b)

pub starts_empty : (S : Type 0) (n : ℕ) → size_of {T = S} (replicate n []) ≡ 0
unfolding size_of
starts_empty S n = sum_by-replicate (λ (line : List S). length line) n [] ∙ mul-zero n

module _ {T : Type 0} where
  -- the order may begin with any owner
  pub turned_order : (lines : List (List T)) (order : List ℕ) (owners : ℕ) → IsOrder lines order → IsOrder lines (drop owners order ++ take owners order)
  turned_order lines order owners is = record { once = λ other. turned order owners other ∙ is.once other }

  line_none : (n owner : ℕ) → line_of {T = T} (replicate n []) owner ≡ []
  line_none zero owner = refl
  line_none (suc n) zero = refl
  line_none (suc n) (suc owner) = line_none n owner

  pub starts : (n : ℕ) → IsOrder {T = T} (replicate n []) []
  unfolding turns_of
  starts n = record { once = λ other. ap (λ l. min 1 (length l)) (sym (line_none n other)) }

  leaves : (lines : List (List T)) (order : List ℕ) (owner : ℕ) (line : List T) → IsOrder lines order → owner < length lines → 1 ≤ length (line_of lines owner) → IsOrder (slice_set lines owner line) (left line owner order)
  leaves lines order owner [] is lt some =
      changed lines order (filter (λ one. not (one == owner)) order) owner [] is lt
      (kept order owner owner ∙ ap (λ b. cond b 0 (turns_of order owner)) (eq-eqb owner owner refl))
      (λ other ne. kept order owner other ∙ ap (λ b. cond b 0 (turns_of order other)) ne)
  leaves lines order owner (x ∷ line) is lt some =
      changed lines order order owner (x ∷ line) is lt (omega (arith, is.once owner)) (λ other ne. refl)

  left_is : (order : List ℕ) (owner : ℕ) (line : List T) (b : Bool) → b ≡ (length line == 0) → (if b then filter (λ one. not (one == owner)) order else order) ≡ left line owner order
  left_is order owner [] b is = rw is refl
  left_is order owner (x ∷ line) b is = let some : (length (x ∷ line) == 0) ≡ false = grind arith in rw (is, some) refl

module _ {T X : Type 0} (f : X → List T) where
  pub removes : (ds : List X) (order orders : List ℕ) (count owner : ℕ) (d e : X) (item : T) (at : ℕ) (b : Bool) → IsOrder (map f ds) order → count ≡ size_of (map f ds) → owner < length ds → d ≡ slice_index_or ds owner d → at < length (f d) → item ≡ slice_index_or (f d) at item → f e ≡ take at (f d) ++ drop (suc at) (f d) → length (f e) + 1 ≡ length (f d) → b ≡ (length (f e) == 0) → orders ≡ (if b then filter (λ one. not (one == owner)) order else order) → IsOrder (map f (slice_set ds owner e)) orders × (1 ≤ count) × (count - 1 ≡ size_of (map f (slice_set ds owner e))) × IsRemoved (record { lines = map f ds; order = order }) owner item (record { lines = map f (slice_set ds owner e); order = orders })
  removes ds order orders count owner d e item at b is all lt place within item_is gone fewer last turn =
      let lt2 : owner < length (map f ds) = omega (arith, lt, length-map ds f) in
      let line : line_of (map f ds) owner ≡ f d = line_at f ds owner d lt place in
      let set_is : map f (slice_set ds owner e) ≡ slice_set (map f ds) owner (f e) = map-set f ds owner e in
      let turn_at : orders ≡ left (f e) owner order = turn ∙ left_is order owner (f e) b last in
      let n = size-set (map f ds) owner (f e) lt2 in
      let m = ap length line in
      let was : f d ≡ take at (f d) ++ item ∷ drop (suc at) (f d) = sym (take-append-drop at (f d)) ∙ ap (λ l. take at (f d) ++ l) (drop-cons (f d) at item within ∙ ap (λ x. x ∷ drop (suc at) (f d)) (sym item_is)) in
      rw (set_is, turn_at)
      (leaves (map f ds) order owner (f e) is lt2 (omega (arith, m, within)), omega (arith, n, m, all, within), omega (arith, n, m, all, fewer), record { before = take at (f d); after = drop (suc at) (f d); was = line ∙ was; gone = ap (slice_set (map f ds) owner) gone; turn = ap (λ l. left l owner order) gone })
