-- Elements come into a range and leave it in the order of their times.
use Rattle.std.proofs.Common.{◌≡◌, ℕ, zero, suc, ◌+◌, ◌*◌, ◌/◌, ◌^◌, ◌≤◌, ◌<◌, List, [], ◌∷◌, ◌++◌, map, Bool, true, false, cond, nat_lt, nat_le, refl, sym, ap, ◌∙◌, arith}
use Rattle.std.specs.List.{AllByRecursion, filter}
use Rattle.std.proofs.lemmas.Bool.Decides.{nat_tests}
use Rattle.std.proofs.lemmas.List.{map-append}
use Rattle.std.proofs.lemmas.List.Elements.{filter-append}
use Rattle.cql_value.specs.Element.{Element}
use Rattle.cql_window.specs.Window.{AreAscending, end_of}
use Rattle.cql_window.specs.Changes.{cap, came, gone, moments, is_within}
use Rattle.cql_window.specs.Moments.{instant_of}
use Rattle.cql_window.specs.declared.window.Window.{Window}
use Rattle.cql_window.specs.declared.window.Window.TheVariants.{Range}
use Rattle.cql_window.specs.declared.instants.Moment.{Moment}
use Rattle.cql_window.specs.declared.instants.Moment.TheVariants.{Time, Coming, Leaving}
use Rattle.cql_window.proofs.Ends.{floor_mono}
use Rattle.cql_window.proofs.Moments.{each_front}
use Rattle.cql_window.proofs.Multiples.{seen_from}

-- what an element doesn't do before an instant, no later one does
abbrev pub InOrder : ℕ → (Element → ℕ) → Type 0
InOrder to f = (x y : Element) → x.at ≤ y.at → nat_lt (f x) to ≡ false → nat_lt (f y) to ≡ false

gone_in_order : (len s to : ℕ) → InOrder to (gone len s)
gone_in_order len s to = λ x y le past.
    let reach : cap (x.at + len) ≤ cap (y.at + len) = omega (arith, le) in
    let up : cap (x.at + len) / s * s ≤ cap (y.at + len) / s * s = floor_mono s (cap (x.at + len)) (cap (y.at + len)) reach in
    let later : gone len s x ≤ gone len s y = omega (arith, up) in
    grind (arith, nat_tests, past, later)

came_before : (s to : ℕ) (x : Element) → 0 < s → to < 2 ^ 64 → nat_lt (came s x) to ≡ nat_lt x.at (end_of s to)
came_before s to x pos bound = by_test (nat_le x.at (x.at / s * s)) ∙ sym (seen_from s x.at to pos)
  where
    by_test : (b : Bool) → nat_lt (cond b x.at (cap (x.at / s * s + s))) to ≡ nat_lt (cond b x.at (x.at / s * s + s)) to
    by_test true = refl
    by_test false = grind (arith, nat_tests, bound)

came_at_once : (x : Element) → came 0 x ≡ 0
came_at_once x = grind (arith, nat_tests)

came_in_order : (s to : ℕ) → to < 2 ^ 64 → InOrder to (came s)
came_in_order zero to bound = λ x y le past. ap (λ n. nat_lt n to) (came_at_once y ∙ sym (came_at_once x)) ∙ past
came_in_order (suc s) to bound = λ x y le past.
    let pos : 0 < suc s = omega arith in
    let late : nat_lt x.at (end_of (suc s) to) ≡ false = sym (came_before (suc s) to x pos bound) ∙ past in
    let later : nat_lt y.at (end_of (suc s) to) ≡ false = grind (arith, nat_tests, late, le) in
    came_before (suc s) to y pos bound ∙ later

none_later : (from to : ℕ) (f : Element → ℕ) (x : Element) (xs : List Element) → InOrder to f → nat_lt (f x) to ≡ false → AllByRecursion (λ y. x.at ≤ y.at) xs → filter (is_within from to) (map f xs) ≡ []
none_later from to f x [] ordered past after = refl
none_later from to f x (y ∷ ys) ordered past after =
    let out : nat_lt (f y) to ≡ false = ordered x y after.0 past in
    grind (arith, out, none_later from to f x ys ordered past after.1)

pub in_order : (m : Moment) (to : ℕ) → to < 2 ^ 64 → InOrder to (instant_of m)
in_order Time to bound = λ x y le past. grind (arith, nat_tests, le, past)
in_order (Coming slide) to bound = came_in_order slide to bound
in_order (Leaving len slide) to bound = gone_in_order len slide to

-- so behind one at an end or later none is before it
pub none_from : (from to : ℕ) (f : Element → ℕ) (x : Element) (xs : List Element) → InOrder to f → nat_lt (f x) to ≡ false → AreAscending (x ∷ xs) → filter (is_within from to) (map f (x ∷ xs)) ≡ []
none_from from to f x xs ordered past ascending = grind (arith, past, none_later from to f x xs ordered past ascending.0)

pub ascending_front : (xs ys : List Element) → AreAscending (xs ++ ys) → AreAscending xs
ascending_front [] ys ascending = tt
ascending_front (x ∷ xs) ys ascending = (each_front (λ y. x.at ≤ y.at) xs ys ascending.0, ascending_front xs ys ascending.1)

pub ascending_back : (xs ys : List Element) → AreAscending (xs ++ ys) → AreAscending ys
ascending_back [] ys ascending = ascending
ascending_back (x ∷ xs) ys ascending = ascending_back xs ys ascending.1

-- of a range those that leave and then those that come
pub range_found : (from to len s : ℕ) (settled xs : List Element) (w : Window) (m : Moment) (none first left all : List ℕ) → w ≡ Range len s → m ≡ Coming s → none ≡ [] → first ≡ none ++ filter (is_within from to) (map (gone len s) settled) → left ≡ first ++ filter (is_within from to) (map (gone len s) xs) → all ≡ left ++ filter (is_within from to) (map (instant_of m) xs) → all ≡ filter (is_within from to) (moments w settled xs)
range_found from to len s settled xs w m none first left all w_is m_is none_is first_is left_is all_is = grind (arith, filter-append, map-append)
