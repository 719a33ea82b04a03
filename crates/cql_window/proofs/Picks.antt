-- What stands in the columns of a projection.
use Rattle.std.proofs.Common.{◌≡◌, ℕ, zero, suc, ◌+◌, ◌<◌, ◌≤◌, List, [], ◌∷◌, ◌++◌, length, take, get_or, refl, ap, ◌∙◌, sym, arith, append_assoc}
use Rattle.std.specs.Prelude.{Option, Some, None, slice_get}
use Rattle.std.specs.List.{AllByRecursion, filter_map, cons_option, range_with_len}
use Rattle.std.proofs.lemmas.List.Elements.{filter_map-append}
use Rattle.cql_window.specs.Projection.{projected, whole_projection, AreWithin}

-- A COLUMN
pub read_at : {A : Type 0} (xs : List A) (i : ℕ) → i < length xs → (x : A) × (slice_get xs i ≡ Some x)
read_at [] i h = absurd (omega (arith, h))
read_at (x ∷ xs) zero h = (x, refl)
read_at (x ∷ xs) (suc i) h = read_at xs i (omega (arith, h))

-- what stands in a column, if there is one
abbrev pub picked_by : {A : Type 0} (row : List A) → Option ℕ → Option A
picked_by row None = None
picked_by row (Some column) = slice_get row column

-- what stands in a column of a projection
pub picked : {A : Type 0} (row : List A) (projection : List ℕ) (j : ℕ) → AreWithin projection (length row) → slice_get (projected row projection) j ≡ picked_by row (slice_get projection j)
picked row [] j h = refl
picked row (p ∷ ps) zero h = let r = read_at row p h.0 in (λ i. slice_get (cons_option (r.1 i) (projected row ps)) 0) ∙ sym r.1
picked row (p ∷ ps) (suc j) h = let r = read_at row p h.0 in (λ i. slice_get (cons_option (r.1 i) (projected row ps)) (suc j)) ∙ picked row ps j h.1

pub chained : {A : Type 0} (xs : List A) (projection columns : List ℕ) → AreWithin projection (length xs) → projected (projected xs projection) columns ≡ projected xs (projected projection columns)
chained xs projection [] h = refl
chained xs projection (j ∷ js) h = (λ i. cons_option (picked xs projection j h i) (chained xs projection js h i)) ∙ by (slice_get projection j)
  where
    by : (o : Option ℕ) → cons_option (picked_by xs o) (projected xs (projected projection js)) ≡ projected xs (cons_option o (projected projection js))
    by None = refl
    by (Some p) = refl

-- ALL COLUMNS
seam : {A : Type 0} (ys : List A) (x : A) (xs : List A) → slice_get (ys ++ x ∷ xs) (length ys) ≡ Some x
seam [] x xs = refl
seam (y ∷ ys) x xs = seam ys x xs

one_longer : {A : Type 0} (ys : List A) (x : A) → length ys + 1 ≡ length (ys ++ x ∷ [])
one_longer [] x = refl
one_longer (y ∷ ys) x = let e = one_longer ys x in omega (arith, e)

shifted : {A : Type 0} (ys xs : List A) → filter_map (λ column. slice_get (ys ++ xs) column) (range_with_len (length ys) (length xs)) ≡ xs
shifted ys [] = refl
shifted ys (x ∷ xs) =
    (λ i. cons_option (seam ys x xs i) (filter_map (λ column. slice_get (sym (append_assoc ys (x ∷ []) xs) i) column) (range_with_len (one_longer ys x i) (length xs))))
    ∙ ap (λ l. x ∷ l) (shifted (ys ++ x ∷ []) xs)

-- in all columns stand all things
pub at_all : {A : Type 0} (xs : List A) → projected xs (whole_projection (length xs)) ≡ xs
at_all xs = shifted [] xs

within_from : (from many limit : ℕ) → from + many ≤ limit → AllByRecursion (λ column. column < limit) (range_with_len from many)
within_from from zero limit h = tt
within_from from (suc many) limit h = (omega (arith, h), within_from (from + 1) many limit (omega (arith, h)))

-- all columns are within
pub all_within : (many : ℕ) → AreWithin (whole_projection many) many
all_within many = within_from 0 many many (omega arith)

range_at : (from many i : ℕ) → i < many → slice_get (range_with_len from many) i ≡ Some (from + i)
range_at from zero i h = absurd (omega (arith, h))
range_at from (suc many) zero h = ap (λ n. Some n) (omega arith)
range_at from (suc many) (suc i) h = range_at (from + 1) many i (omega (arith, h)) ∙ ap (λ n. Some n) (omega arith)

-- a projection of the indices of all columns is itself
pub among_all : (many : ℕ) (projection : List ℕ) → AreWithin projection many → projected (whole_projection many) projection ≡ projection
among_all many [] h = refl
among_all many (p ∷ ps) h = (λ i. cons_option (range_at 0 many p h.0 i) (among_all many ps h.1 i)) ∙ ap (λ n. n ∷ ps) (omega arith)

-- the first indices are those of fewer columns
pub fewer_columns : (from few many : ℕ) → few ≤ many → take few (range_with_len from many) ≡ range_with_len from few
fewer_columns from zero many h = refl
fewer_columns from (suc few) zero h = absurd (omega (arith, h))
fewer_columns from (suc few) (suc many) h = ap (λ l. from ∷ l) (fewer_columns (from + 1) few many (omega (arith, h)))

-- ONE MORE COLUMN
pub take_one : {A : Type 0} (xs : List A) (i : ℕ) (x : A) → slice_get xs i ≡ Some x → take (i + 1) xs ≡ take i xs ++ x ∷ []
take_one [] i x h = absurd cc
take_one (y ∷ ys) zero x h = grind arith
take_one (y ∷ ys) (suc i) x h = let e : suc i + 1 ≡ suc (i + 1) = omega arith in ap (λ n. take n (y ∷ ys)) e ∙ ap (λ l. y ∷ l) (take_one ys i x h)

-- what stands in one more column
pub at_more : {A : Type 0} (xs : List A) (projection : List ℕ) (i : ℕ) → i < length projection → projected xs (take (i + 1) projection) ≡ projected xs (take i projection) ++ cons_option (slice_get xs (get_or projection i 0)) []
at_more xs projection i h = ap (projected xs) (take_one projection i (get_or projection i 0) (there projection i 0 h)) ∙ filter_map-append (λ p. slice_get xs p) (take i projection) (get_or projection i 0 ∷ [])
  where
    there : {A : Type 0} (xs : List A) (i : ℕ) (d : A) → i < length xs → slice_get xs i ≡ Some (get_or xs i d)
    there [] i d h = absurd (omega (arith, h))
    there (x ∷ xs) zero d h = refl
    there (x ∷ xs) (suc i) d h = there xs i d (omega (arith, h))
