-- What stays where a row comes, by the two indices of its part.
use Rattle.std.proofs.Common.{◌≡◌, ℕ, zero, suc, ◌+◌, ◌<◌, ◌≤◌, List, [], ◌∷◌, length, map, Option, Some, None, true, false, cond, nat_lt, sym, ap, ◌∙◌, subst, arith}
use Rattle.std.proofs.lemmas.Bool.Decides.{nat_tests}
use Rattle.std.specs.Prelude.{slice_get}
use Rattle.std.specs.List.{remove, prefix_len}
use Rattle.cql_value.specs.Element.{Element}
use Rattle.cql_value.specs.declared.value.Value.{Value}
use Rattle.cql_chunks.specs.declared.seq.Numbered.{Numbered}
use Rattle.cql_chunks.specs.Seq.{row_in}
use Rattle.cql_window.specs.Coming.{without_oldest, stays}
use Rattle.cql_window.specs.Key.{key_of, key_cmp}
use Rattle.cql_window.specs.Window.{count_part}
use Rattle.cql_store.specs.Parts.{key_in, is_before, part_in, AreNumbered, AreParted}
use Rattle.cql_store.proofs.Segments.{seg_count}
use Rattle.cql_store.proofs.RowNumbers.{is_below, count_is}
use Rattle.cql_store.proofs.Oldest.{oldest_at, oldest_gone, less_parted}

counted : (columns : List ℕ) (rows parts : List Numbered) (row : List Value) → AreParted columns rows parts → length (part_in columns (key_of columns row) parts) ≡ count_part columns row (map row_in rows)
counted columns rows parts row parted = ap length (parted.same (key_of columns row)) ∙ sym (count_is columns row rows)

-- between the two indices stand the rows of the part
pub between : (columns : List ℕ) (rows parts : List Numbered) (row : List Value) → AreParted columns rows parts → prefix_len (is_before columns (key_of columns row) true) parts ≡ prefix_len (is_before columns (key_of columns row) false) parts + count_part columns row (map row_in rows)
between columns rows parts row parted =
    let key = key_of columns row in
    omega (arith, seg_count (λ x. key_cmp (key_in columns x) key) parts (parted.sorted key false) (parted.sorted key true), counted columns rows parts row parted)

pub some_in : (columns : List ℕ) (rows parts : List Numbered) (row : List Value) → AreParted columns rows parts → 0 < count_part columns row (map row_in rows) → 0 < length (part_in columns (key_of columns row) parts)
some_in columns rows parts row parted some = subst (λ n. 0 < n) (sym (counted columns rows parts row parted)) some

pub stays_few : (columns : List ℕ) (count : ℕ) (row : List Value) (kept : List Element) → count_part columns row kept < count → stays columns count kept row ≡ kept
stays_few columns count row kept few =
    let test : nat_lt (count_part columns row kept) count ≡ true = grind (arith, nat_tests, few) in
    ap (λ b. cond b kept (without_oldest columns row kept)) test

pub stays_many : (columns : List ℕ) (count : ℕ) (row : List Value) (kept : List Element) → count ≤ count_part columns row kept → stays columns count kept row ≡ without_oldest columns row kept
stays_many columns count row kept many =
    let test : nat_lt (count_part columns row kept) count ≡ false = grind (arith, nat_tests, many) in
    ap (λ b. cond b kept (without_oldest columns row kept)) test

pub none_past : (xs : List Numbered) (n : ℕ) → None ≡ slice_get xs n → length xs ≤ n
none_past [] n none = omega arith
none_past (x ∷ xs) zero none = absurd cc
none_past (x ∷ xs) (suc n) none = omega (arith, none_past xs n none)

-- what the oldest of the row's part leaves, where it stands at these indices
pub record Leaves (columns : List ℕ) (rows parts : List Numbered) (row : List Value) (first index : ℕ) : Type 0 where
  pub within : index < length rows
  pub rest : map row_in (remove rows index) ≡ without_oldest columns row (map row_in rows)
  pub parted : AreParted columns (remove rows index) (remove parts first)

pub oldest_leaves : (columns : List ℕ) (next : ℕ) (rows parts : List Numbered) (row : List Value) (e : Numbered) (first index : ℕ) → AreNumbered next rows → AreParted columns rows parts → first ≡ prefix_len (is_before columns (key_of columns row) false) parts → index ≡ prefix_len (is_below e.number) rows → Some e ≡ slice_get parts first → 0 < count_part columns row (map row_in rows) → Leaves columns rows parts row first index
oldest_leaves columns next rows parts row e first index rise parted is_first is_index at some = record {
  within = subst (λ n. n < length rows) (sym is_index) (oldest_at columns next rows parts key e rise parted here many).within;
  rest = ap (λ n. map row_in (remove rows n)) is_index ∙ oldest_gone columns next rows parts row e rise parted here many;
  parted = subst (λ n. AreParted columns (remove rows n) (remove parts first)) (sym is_index) (subst (λ n. AreParted columns (remove rows (prefix_len (is_below e.number) rows)) (remove parts n)) (sym is_first) (less_parted columns next rows parts key e rise parted here many));
}
  where
    key : List (Option Value)
    key = key_of columns row

    here : slice_get parts (prefix_len (is_before columns (key_of columns row) false) parts) ≡ Some e
    here = sym (at ∙ ap (slice_get parts) is_first)

    many : 0 < length (part_in columns (key_of columns row) parts)
    many = some_in columns rows parts row parted some
