-- Windows through a projection.
use Rattle.std.proofs.Common.{◌≡◌, ℕ, zero, suc, ◌+◌, ◌-◌, ◌*◌, ◌/◌, Bool, true, false, ◌&&◌, List, [], ◌∷◌, ◌++◌, map, length, take, drop, refl, ap, ◌∙◌, sym}
use Rattle.std.specs.Prelude.{Option, Some, None, nat_lt, slice_get, if◌then◌else◌}
use Rattle.std.specs.List.{AllByRecursion, filter, cons_option}
use Rattle.cql_value.specs.Element.{Element}
use Rattle.cql_window.specs.declared.window.Window.{Window}
use Rattle.cql_window.specs.declared.window.Window.TheVariants.{Range, Rows, All as all, Parts}
use Rattle.cql_window.specs.Window.{end_of, same_value, same_part, count_part, last_of_parts, count_before, front_len, kept}
use Rattle.cql_window.specs.Projection.{projected}
use Rattle.cql_window.specs.Through.{narrowed, wide_window, HasProjection}
use Rattle.cql_window.specs.ProjectionLaw.{IsNarrowLaw}
use Rattle.cql_window.proofs.Picks.{picked_by, picked}

-- LISTS
pub map_both : {A B : Type 0} (f : A → B) (xs ys : List A) → map f (xs ++ ys) ≡ map f xs ++ map f ys
map_both f [] ys = refl
map_both f (x ∷ xs) ys = ap (λ l. f x ∷ l) (map_both f xs ys)

pub map_length : {A B : Type 0} (f : A → B) (xs : List A) → length (map f xs) ≡ length xs
map_length f [] = refl
map_length f (x ∷ xs) = ap suc (map_length f xs)

pub map_take : {A B : Type 0} (f : A → B) (n : ℕ) (xs : List A) → take n (map f xs) ≡ map f (take n xs)
map_take f zero xs = refl
map_take f (suc n) [] = refl
map_take f (suc n) (x ∷ xs) = ap (λ l. f x ∷ l) (map_take f n xs)

map_drop : {A B : Type 0} (f : A → B) (n : ℕ) (xs : List A) → drop n (map f xs) ≡ map f (drop n xs)
map_drop f zero xs = refl
map_drop f (suc n) [] = refl
map_drop f (suc n) (x ∷ xs) = map_drop f n xs

pub all_front : {A : Type 0} (P : A → Type 0) (xs ys : List A) (n : ℕ) → AllByRecursion P (xs ++ ys) → AllByRecursion P (xs ++ take n ys)
all_front P [] [] zero h = tt
all_front P [] [] (suc n) h = tt
all_front P [] (y ∷ ys) zero h = tt
all_front P [] (y ∷ ys) (suc n) h = (h.0, all_front P [] ys n h.1)
all_front P (x ∷ xs) ys n h = (h.0, all_front P xs ys n h.1)

-- PARTS
module _ (projection : List ℕ) where
  -- two rows are of one part by the chosen values where they are by the whole rows
  one_part : (columns : List ℕ) (a b : Element) → HasProjection projection a → HasProjection projection b → same_part columns (narrowed projection a).row (narrowed projection b).row ≡ same_part (projected projection columns) a.row b.row
  one_part [] a b fa fb = refl
  one_part (j ∷ js) a b fa fb =
      (λ i. same_value (picked a.row projection j fa i) (picked b.row projection j fb i) && one_part js a b fa fb i) ∙ by (slice_get projection j)
    where
      by : (o : Option ℕ) → (same_value (picked_by a.row o) (picked_by b.row o) && same_part (projected projection js) a.row b.row) ≡ same_part (cons_option o (projected projection js)) a.row b.row
      by None = refl
      by (Some p) = refl

  counted : (columns : List ℕ) (x : Element) (xs : List Element) → HasProjection projection x → AllByRecursion (HasProjection projection) xs → count_part columns (narrowed projection x).row (map (narrowed projection) xs) ≡ count_part (projected projection columns) x.row xs
  counted columns x [] fx h = refl
  counted columns x (y ∷ ys) fx h =
      λ i. if one_part columns x y fx h.0 i then 1 + counted columns x ys fx h.1 i else counted columns x ys fx h.1 i

  map_if : (b : Bool) (x : Element) (xs : List Element) → (if b then narrowed projection x ∷ map (narrowed projection) xs else map (narrowed projection) xs) ≡ map (narrowed projection) (if b then x ∷ xs else xs)
  map_if true x xs = refl
  map_if false x xs = refl

  newest : (columns : List ℕ) (n : ℕ) (xs : List Element) → AllByRecursion (HasProjection projection) xs → last_of_parts columns n (map (narrowed projection) xs) ≡ map (narrowed projection) (last_of_parts (projected projection columns) n xs)
  newest columns n [] h = refl
  newest columns n (x ∷ xs) h =
      (λ i. if nat_lt (counted columns x xs h.0 h.1 i) n then narrowed projection x ∷ newest columns n xs h.1 i else newest columns n xs h.1 i)
      ∙ map_if (nat_lt (count_part (projected projection columns) x.row xs) n) x (last_of_parts (projected projection columns) n xs)

  -- OTHER WINDOWS
  ranged : (len end : ℕ) (xs : List Element) → filter (λ x. nat_lt end (x.at + len + 2)) (map (narrowed projection) xs) ≡ map (narrowed projection) (filter (λ x. nat_lt end (x.at + len + 2)) xs)
  ranged len end [] = refl
  ranged len end (x ∷ xs) =
      (λ i. if nat_lt end (x.at + len + 2) then narrowed projection x ∷ ranged len end xs i else ranged len end xs i)
      ∙ map_if (nat_lt end (x.at + len + 2)) x (filter (λ y. nat_lt end (y.at + len + 2)) xs)

  pub before : (end : ℕ) (xs : List Element) → count_before end (map (narrowed projection) xs) ≡ count_before end xs
  before end [] = refl
  before end (x ∷ xs) = λ i. if nat_lt x.at end then 1 + before end xs i else 0

  kept_narrow : (w : Window) (c : ℕ) (xs : List Element) → AllByRecursion (HasProjection projection) xs → kept w c (map (narrowed projection) xs) ≡ map (narrowed projection) (kept (wide_window projection w) c xs)
  kept_narrow (Range len slide) c xs h = ranged len (end_of slide c) xs
  kept_narrow (Rows count slide) c xs h = (λ i. drop (map_length (narrowed projection) xs i - count) (map (narrowed projection) xs)) ∙ map_drop (narrowed projection) (length xs - count) xs
  kept_narrow all c xs h = refl
  kept_narrow (Parts columns count) c xs h = newest columns count xs h

  front_narrow : (w : Window) (c : ℕ) (xs : List Element) → front_len w c (map (narrowed projection) xs) ≡ front_len (wide_window projection w) c xs
  front_narrow (Range len slide) c xs = before (end_of slide c) xs
  front_narrow (Rows count slide) c xs = ap (λ n. n / slide * slide) (before c xs)
  front_narrow all c xs = before c xs
  front_narrow (Parts columns count) c xs = before c xs

pub narrow_law : IsNarrowLaw
narrow_law projection w c settled xs h =
    let wide = wide_window projection w in
    let n = front_len wide c xs in
    record {
      content =
          (λ i. kept w c (map (narrowed projection) settled ++ take (front_narrow projection w c xs i) (map (narrowed projection) xs)))
          ∙ (λ i. kept w c (map (narrowed projection) settled ++ map_take (narrowed projection) n xs i))
          ∙ ap (kept w c) (sym (map_both (narrowed projection) settled (take n xs)))
          ∙ kept_narrow projection w c (settled ++ take n xs) (all_front (HasProjection projection) settled xs n h);
      beyond = (λ i. drop (front_narrow projection w c xs i) (map (narrowed projection) xs)) ∙ map_drop (narrowed projection) n xs;
    }
