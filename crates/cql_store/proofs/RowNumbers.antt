-- Rows by number: the oldest of a part is found by its number.
use Rattle.std.proofs.Common.{◌≡◌, ℕ, zero, suc, ◌+◌, ◌<◌, List, [], ◌∷◌, ◌++◌, length, map, take, Some, Bool, true, false, cond, nat_lt, refl, sym, ap, ◌∙◌, subst, arith}
use Rattle.std.proofs.lemmas.Bool.Decides.{nat_tests}
use Rattle.std.specs.Prelude.{slice_get}
use Rattle.std.specs.List.{filter, insert, remove, prefix_len, AllByRecursion}
use Rattle.std.specs.Ordering.{is_eq}
use Rattle.cql_value.specs.declared.value.Value.{Value}
use Rattle.cql_chunks.specs.declared.seq.Numbered.{Numbered}
use Rattle.cql_chunks.specs.Seq.{row_in, IsDown}
use Rattle.cql_window.specs.Coming.{without_oldest}
use Rattle.cql_window.specs.Key.{key_of, key_cmp}
use Rattle.cql_window.specs.Window.{same_part, count_part}
use Rattle.cql_window.proofs.Keys.{key_same, same_part_flip}
use Rattle.cql_store.specs.Parts.{key_in, AreNumbered}
use Rattle.cql_store.proofs.Segments.{filter_true, filter_false, prefix_true, prefix_false, all_so, all_remove}

abbrev pub is_below : ℕ → Numbered → Bool
is_below number x = nat_lt x.number number

-- ---- numbers that rise

pub numbers_down : (next number : ℕ) (rows : List Numbered) → AreNumbered next rows → IsDown (is_below number) rows
numbers_down next number [] rise = tt
numbers_down next number (x ∷ xs) rise = (λ fails. all_so (λ y. x.number < y.number) (λ y. is_below number y ≡ false) (λ y above. grind (arith, nat_tests, fails, above)) xs rise.1, numbers_down next number xs rise.2)

pub numbers_remove : (next : ℕ) (rows : List Numbered) (n : ℕ) → AreNumbered next rows → AreNumbered next (remove rows n)
numbers_remove next [] zero rise = tt
numbers_remove next [] (suc n) rise = tt
numbers_remove next (x ∷ xs) zero rise = rise.2
numbers_remove next (x ∷ xs) (suc n) rise = (rise.0, all_remove (λ y. x.number < y.number) xs n rise.1, numbers_remove next xs n rise.2)

all_more : (P : Numbered → Type 0) (xs : List Numbered) (e : Numbered) → P e → AllByRecursion P xs → AllByRecursion P (xs ++ e ∷ [])
all_more P [] e here each = (here, tt)
all_more P (x ∷ xs) e here each = (each.0, all_more P xs e here each.1)

pub numbers_more : (next : ℕ) (rows : List Numbered) (e : Numbered) → e.number ≡ next → AreNumbered next rows → AreNumbered (next + 1) (rows ++ e ∷ [])
numbers_more next [] e is rise = (omega (arith, is), tt, tt)
numbers_more next (x ∷ xs) e is rise = (omega (arith, rise.0), all_more (λ y. x.number < y.number) xs e (omega (arith, rise.0, is)) rise.1, numbers_more next xs e is rise.2)

pub insert_end : (xs : List Numbered) (e : Numbered) → insert xs (length xs) e ≡ xs ++ e ∷ []
insert_end [] e = refl
insert_end (x ∷ xs) e =
    let more : length (x ∷ xs) ≡ suc (length xs) = omega arith in
    ap (λ n. insert (x ∷ xs) n e) more ∙ ap (λ l. x ∷ l) (insert_end xs e)

pub take_more : (xs : List Numbered) (n : ℕ) (e : Numbered) → Some e ≡ slice_get xs n → take n xs ++ e ∷ [] ≡ take (suc n) xs
take_more [] zero e at = absurd cc
take_more [] (suc n) e at = absurd cc
take_more (x ∷ xs) zero e at = let same : e ≡ x = cc at in ap (λ y. y ∷ []) same
take_more (x ∷ xs) (suc n) e at = ap (λ l. x ∷ l) (take_more xs n e at)

-- ---- the first that a test passes

filter_each : (P : Numbered → Type 0) (s : Numbered → Bool) (xs t : List Numbered) (e : Numbered) → AllByRecursion P xs → filter s xs ≡ e ∷ t → P e
filter_each P s [] t e each is = absurd cc
filter_each P s (x ∷ xs) t e each is = by_test (λ rest. filter_each P s xs t e each.1 rest) (s x) refl
  where
    by_test : (filter s xs ≡ e ∷ t → P e) → (b : Bool) → s x ≡ b → P e
    by_test rest true at =
        let both : x ∷ filter s xs ≡ e ∷ t = sym (filter_true s x xs at) ∙ is in
        let same : x ≡ e = cc both in
        subst P same each.0
    by_test rest false at = rest (sym (filter_false s x xs at) ∙ is)

pub filter_head : (s : Numbered → Bool) (xs t : List Numbered) (e : Numbered) → filter s xs ≡ e ∷ t → s e ≡ true
filter_head s [] t e is = absurd cc
filter_head s (x ∷ xs) t e is = by_test (λ rest. filter_head s xs t e rest) (s x) refl
  where
    by_test : (filter s xs ≡ e ∷ t → s e ≡ true) → (b : Bool) → s x ≡ b → s e ≡ true
    by_test rest true at =
        let both : x ∷ filter s xs ≡ e ∷ t = sym (filter_true s x xs at) ∙ is in
        let same : x ≡ e = cc both in
        ap s (sym same) ∙ at
    by_test rest false at = rest (sym (filter_false s x xs at) ∙ is)

-- e is the row at an index, the first that the test passes, and without it those after it are left
pub record IsFirstAt (s : Numbered → Bool) (rows t : List Numbered) (e : Numbered) (index : ℕ) : Type 0 where
  pub within : index < length rows
  pub there : slice_get rows index ≡ Some e
  pub left : filter s (remove rows index) ≡ t

pub first_at : (next : ℕ) (s : Numbered → Bool) (rows t : List Numbered) (e : Numbered) → AreNumbered next rows → filter s rows ≡ e ∷ t → IsFirstAt s rows t e (prefix_len (is_below e.number) rows)
first_at next s [] t e rise is = absurd cc
first_at next s (x ∷ xs) t e rise is = by_test (λ rest. first_at next s xs t e rise.2 rest) (s x) refl
  where
    k : ℕ
    k = prefix_len (is_below e.number) xs

    by_test : (filter s xs ≡ e ∷ t → IsFirstAt s xs t e k) → (b : Bool) → s x ≡ b → IsFirstAt s (x ∷ xs) t e (prefix_len (is_below e.number) (x ∷ xs))
    by_test along true at =
        let both : x ∷ filter s xs ≡ e ∷ t = sym (filter_true s x xs at) ∙ is in
        let same : x ≡ e = cc both in
        let rest : filter s xs ≡ t = cc both in
        let own : is_below e.number x ≡ false = grind (arith, nat_tests, ap (λ y. y.number) same) in
        let some : 0 < length (x ∷ xs) = omega arith in
        let here : IsFirstAt s (x ∷ xs) t e 0 = record { within = some; there = ap (λ y. Some y) same; left = rest } in
        subst (IsFirstAt s (x ∷ xs) t e) (sym (prefix_false (is_below e.number) x xs own)) here
    by_test along false at =
        let rest : filter s xs ≡ e ∷ t = sym (filter_false s x xs at) ∙ is in
        let low : is_below e.number x ≡ true = grind (arith, nat_tests, filter_each (λ y. x.number < y.number) s xs t e rise.1 rest) in
        let later = along rest in
        let more : suc k < length (x ∷ xs) = omega (arith, later.within) in
        let here : IsFirstAt s (x ∷ xs) t e (suc k) = record { within = more; there = later.there; left = filter_false s x (remove xs k) at ∙ later.left } in
        subst (IsFirstAt s (x ∷ xs) t e) (sym (prefix_true (is_below e.number) x xs low)) here

-- ---- the same of the rows without numbers

abbrev pub of_part : List ℕ → List Value → Numbered → Bool
of_part columns row x = is_eq (key_cmp (key_in columns x) (key_of columns row))

part_is : (columns : List ℕ) (row : List Value) (x : Numbered) → same_part columns row x.row.row ≡ of_part columns row x
part_is columns row x = same_part_flip columns row x.row.row ∙ sym (key_same columns x.row.row row)

pub count_is : (columns : List ℕ) (row : List Value) (xs : List Numbered) → count_part columns row (map row_in xs) ≡ length (filter (of_part columns row) xs)
count_is columns row [] = refl
count_is columns row (x ∷ xs) = by_test (count_is columns row xs) (of_part columns row x) refl
  where
    by_test : count_part columns row (map row_in xs) ≡ length (filter (of_part columns row) xs) → (b : Bool) → of_part columns row x ≡ b → count_part columns row (map row_in (x ∷ xs)) ≡ length (filter (of_part columns row) (x ∷ xs))
    by_test rest true is = ap (λ b. cond b (1 + count_part columns row (map row_in xs)) (count_part columns row (map row_in xs))) (part_is columns row x ∙ is) ∙ omega (arith, rest, ap length (filter_true (of_part columns row) x xs is))
    by_test rest false is = ap (λ b. cond b (1 + count_part columns row (map row_in xs)) (count_part columns row (map row_in xs))) (part_is columns row x ∙ is) ∙ rest ∙ sym (ap length (filter_false (of_part columns row) x xs is))

pub without_is : (columns : List ℕ) (row : List Value) (next : ℕ) (rows t : List Numbered) (e : Numbered) → AreNumbered next rows → filter (of_part columns row) rows ≡ e ∷ t → map row_in (remove rows (prefix_len (is_below e.number) rows)) ≡ without_oldest columns row (map row_in rows)
without_is columns row next [] t e rise is = absurd cc
without_is columns row next (x ∷ xs) t e rise is = by_test (λ rest. without_is columns row next xs t e rise.2 rest) (of_part columns row x) refl
  where
    s : Numbered → Bool
    s = of_part columns row

    k : ℕ
    k = prefix_len (is_below e.number) xs

    by_test : (filter s xs ≡ e ∷ t → map row_in (remove xs k) ≡ without_oldest columns row (map row_in xs)) → (b : Bool) → of_part columns row x ≡ b → map row_in (remove (x ∷ xs) (prefix_len (is_below e.number) (x ∷ xs))) ≡ without_oldest columns row (map row_in (x ∷ xs))
    by_test along true at =
        let both : x ∷ filter s xs ≡ e ∷ t = sym (filter_true s x xs at) ∙ is in
        let same : x ≡ e = cc both in
        let own : is_below e.number x ≡ false = grind (arith, nat_tests, ap (λ y. y.number) same) in
        ap (λ n. map row_in (remove (x ∷ xs) n)) (prefix_false (is_below e.number) x xs own) ∙ sym (ap (λ b. cond b (map row_in xs) (row_in x ∷ without_oldest columns row (map row_in xs))) (part_is columns row x ∙ at))
    by_test along false at =
        let rest : filter s xs ≡ e ∷ t = sym (filter_false s x xs at) ∙ is in
        let low : is_below e.number x ≡ true = grind (arith, nat_tests, filter_each (λ y. x.number < y.number) s xs t e rise.1 rest) in
        ap (λ n. map row_in (remove (x ∷ xs) n)) (prefix_true (is_below e.number) x xs low) ∙ ap (λ l. row_in x ∷ l) (along rest) ∙ sym (ap (λ b. cond b (map row_in xs) (row_in x ∷ without_oldest columns row (map row_in xs))) (part_is columns row x ∙ at))
