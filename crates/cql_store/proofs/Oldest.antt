-- Rows part by part, after the oldest of a part went.
use Rattle.std.proofs.Common.{◌≡◌, ℕ, ◌<◌, List, ◌∷◌, length, map, Option, Some, Bool, true, false, refl, sym, ◌∙◌, subst}
use Rattle.std.specs.Prelude.{slice_get}
use Rattle.std.specs.List.{remove, prefix_len}
use Rattle.std.specs.Ordering.{is_eq}
use Rattle.cql_value.specs.declared.value.Value.{Value}
use Rattle.cql_chunks.specs.declared.seq.Numbered.{Numbered}
use Rattle.cql_chunks.specs.Seq.{row_in}
use Rattle.cql_window.specs.Coming.{without_oldest}
use Rattle.cql_window.specs.Key.{key_of, key_cmp}
use Rattle.cql_window.proofs.Keys.{key_exact}
use Rattle.cql_store.specs.Parts.{key_in, is_before, part_in, AreNumbered, AreParted}
use Rattle.cql_store.proofs.Segments.{other_removed, down_remove, seg_first}
use Rattle.cql_store.proofs.RowNumbers.{is_below, IsFirstAt, first_at, filter_head, without_is}

-- the oldest of the key's part is the first of it in both
head_in : (columns : List ℕ) (rows parts : List Numbered) (key : List (Option Value)) (e : Numbered) → AreParted columns rows parts → slice_get parts (prefix_len (is_before columns key false) parts) ≡ Some e → 0 < length (part_in columns key parts) → part_in columns key rows ≡ e ∷ part_in columns key (remove parts (prefix_len (is_before columns key false) parts))
head_in columns rows parts key e parted at some = sym (parted.same key) ∙ seg_first (λ x. key_cmp (key_in columns x) key) parts e (parted.sorted key true) at some

pub oldest_at : (columns : List ℕ) (next : ℕ) (rows parts : List Numbered) (key : List (Option Value)) (e : Numbered) → AreNumbered next rows → AreParted columns rows parts → slice_get parts (prefix_len (is_before columns key false) parts) ≡ Some e → 0 < length (part_in columns key parts) → IsFirstAt (λ x. is_eq (key_cmp (key_in columns x) key)) rows (part_in columns key (remove parts (prefix_len (is_before columns key false) parts))) e (prefix_len (is_below e.number) rows)
oldest_at columns next rows parts key e rise parted at some = first_at next (λ x. is_eq (key_cmp (key_in columns x) key)) rows (part_in columns key (remove parts (prefix_len (is_before columns key false) parts))) e rise (head_in columns rows parts key e parted at some)

pub oldest_gone : (columns : List ℕ) (next : ℕ) (rows parts : List Numbered) (row : List Value) (e : Numbered) → AreNumbered next rows → AreParted columns rows parts → slice_get parts (prefix_len (is_before columns (key_of columns row) false) parts) ≡ Some e → 0 < length (part_in columns (key_of columns row) parts) → map row_in (remove rows (prefix_len (is_below e.number) rows)) ≡ without_oldest columns row (map row_in rows)
oldest_gone columns next rows parts row e rise parted at some = without_is columns row next rows (part_in columns (key_of columns row) (remove parts (prefix_len (is_before columns (key_of columns row) false) parts))) e rise (head_in columns rows parts (key_of columns row) e parted at some)

pub less_parted : (columns : List ℕ) (next : ℕ) (rows parts : List Numbered) (key : List (Option Value)) (e : Numbered) → AreNumbered next rows → AreParted columns rows parts → slice_get parts (prefix_len (is_before columns key false) parts) ≡ Some e → 0 < length (part_in columns key parts) → AreParted columns (remove rows (prefix_len (is_below e.number) rows)) (remove parts (prefix_len (is_before columns key false) parts))
less_parted columns next rows parts key e rise parted at some = record { sorted = λ other also. down_remove (is_before columns other also) parts first (parted.sorted other also); same = λ other. by_test other (is_eq (key_cmp (key_in columns e) other)) refl }
  where
    first : ℕ
    first = prefix_len (is_before columns key false) parts

    index : ℕ
    index = prefix_len (is_below e.number) rows

    by_test : (other : List (Option Value)) (b : Bool) → is_eq (key_cmp (key_in columns e) other) ≡ b → part_in columns other (remove parts first) ≡ part_in columns other (remove rows index)
    by_test other true is =
        let own : is_eq (key_cmp (key_in columns e) key) ≡ true = filter_head (λ x. is_eq (key_cmp (key_in columns x) key)) rows (part_in columns key (remove parts first)) e (head_in columns rows parts key e parted at some) in
        let same : key ≡ other = sym (key_exact (key_in columns e) key own) ∙ key_exact (key_in columns e) other is in
        subst (λ k. part_in columns k (remove parts first) ≡ part_in columns k (remove rows index)) same (sym (oldest_at columns next rows parts key e rise parted at some).left)
    by_test other false is =
        let s : Numbered → Bool = λ x. is_eq (key_cmp (key_in columns x) other) in
        other_removed s parts first e at is ∙ parted.same other ∙ sym (other_removed s rows index e (oldest_at columns next rows parts key e rise parted at some).there is)
