-- Rows put in order by their parts, where those of one part keep their order.
use Rattle.std.proofs.Common.{◌≡◌, ℕ, suc, ◌<◌, ◌≤◌, List, [], ◌∷◌, length, Option, Bool, true, false, ◌||◌, ◌&&◌, not, refl, sym, ap, ◌∙◌, subst, arith}
use Rattle.std.specs.Prelude.{slice_index_or}
use Rattle.std.specs.List.{filter, AllByRecursion}
use Rattle.std.specs.List.Sorted.{IsSortedBy, IsStableBy, IsNonDecreasingBy, ties}
use Rattle.std.specs.declared.cmp.Ordering.{Ordering}
use Rattle.std.specs.declared.cmp.Ordering.TheVariants.{Less, Equal, Greater}
use Rattle.std.specs.Ordering.{is_lt, is_eq, ordering_index, ordering_reverse}
use Rattle.std.proofs.lemmas.List.Sorted.{searchable_from_sorted}
use Rattle.cql_value.specs.declared.value.Value.{Value}
use Rattle.cql_chunks.specs.declared.seq.Numbered.{Numbered}
use Rattle.cql_chunks.specs.Seq.{IsDown}
use Rattle.cql_window.specs.Key.{key_cmp, key_cmp_total}
use Rattle.cql_window.proofs.Keys.{key_exact}
use Rattle.cql_store.specs.Parts.{key_in, part_in, AreParted}
use Rattle.cql_store.proofs.Segments.{all_so}
use Rattle.cql_store.proofs.RowNumbers.{filter_head}

abbrev pub is_less : List ℕ → Numbered → Numbered → Bool
is_less columns x y = is_lt (key_cmp (key_in columns x) (key_in columns y))

-- ---- in order

later_fails : (also : Bool) (r s : Ordering) → ordering_index r ≤ ordering_index s → (is_lt r || (also && is_eq r)) ≡ false → (is_lt s || (also && is_eq s)) ≡ false
later_fails true r Greater most fails = refl
later_fails false r Greater most fails = refl
later_fails false r Equal most fails = refl
later_fails true Less Equal most fails = fails
later_fails true Equal Equal most fails = fails
later_fails true Greater Equal most fails = absurd (omega (arith, most))
later_fails also Less Less most fails = fails
later_fails also Equal Less most fails = absurd (omega (arith, most))
later_fails also Greater Less most fails = absurd (omega (arith, most))

all_from : (n : Numbered → ℕ) (m : ℕ) (xs : List Numbered) → ((j : ℕ) (d : Numbered) → j < length xs → m ≤ n (slice_index_or xs j d)) → AllByRecursion (λ y. m ≤ n y) xs
all_from n m [] each = tt
all_from n m (x ∷ xs) each = (each 0 x (omega arith), all_from n m xs (λ j d below. each (suc j) d (omega (arith, below))))

down_of : (o : Numbered → Ordering) (also : Bool) (xs : List Numbered) → IsNonDecreasingBy (λ y. ordering_index (o y)) xs → IsDown (λ x. is_lt (o x) || (also && is_eq (o x))) xs
down_of o also [] rises = tt
down_of o also (x ∷ xs) rises = (
  (λ fails. all_so (λ y. ordering_index (o x) ≤ ordering_index (o y)) (λ y. (is_lt (o y) || (also && is_eq (o y))) ≡ false) (λ y most. later_fails also (o x) (o y) most fails) xs (all_from (λ y. ordering_index (o y)) (ordering_index (o x)) xs (λ j d below. rises 0 (suc j) d (omega arith) (omega (arith, below))))),
  down_of o also xs (λ i j d first below. rises (suc i) (suc j) d (omega (arith, first)) (omega (arith, below))),
)

-- ---- and each part in its order

tie : (r s : Ordering) → s ≡ ordering_reverse r → (not (is_lt s) && not (is_lt r)) ≡ is_eq r
tie Less s back = ap (λ t. not (is_lt t) && not (is_lt Less)) back
tie Equal s back = ap (λ t. not (is_lt t) && not (is_lt Equal)) back
tie Greater s back = ap (λ t. not (is_lt t) && not (is_lt Greater)) back

tie_is : (columns : List ℕ) (e y : Numbered) → ties (is_less columns) e y ≡ is_eq (key_cmp (key_in columns y) (key_in columns e))
tie_is columns e y = tie (key_cmp (key_in columns y) (key_in columns e)) (key_cmp (key_in columns e) (key_in columns y)) (key_cmp_total.antisymm (key_in columns e) (key_in columns y))

part_ties : (columns : List ℕ) (e : Numbered) (xs : List Numbered) → filter (ties (is_less columns) e) xs ≡ part_in columns (key_in columns e) xs
part_ties columns e xs = λ k. filter (λ y. tie_is columns e y k) xs

same_at : (columns : List ℕ) (rows parts : List Numbered) (e : Numbered) (key : List (Option Value)) → IsStableBy (is_less columns) rows parts → is_eq (key_cmp (key_in columns e) key) ≡ true → part_in columns key parts ≡ part_in columns key rows
same_at columns rows parts e key stable own = subst (λ k. part_in columns k parts ≡ part_in columns k rows) (key_exact (key_in columns e) key own) (sym (part_ties columns e parts) ∙ stable e ∙ part_ties columns e rows)

pub sorted_parted : (columns : List ℕ) (rows parts : List Numbered) → IsSortedBy (is_less columns) parts → IsStableBy (is_less columns) rows parts → AreParted columns rows parts
sorted_parted columns rows parts sorted stable = record {
  sorted = λ key also. down_of (λ x. key_cmp (key_in columns x) key) also parts (searchable_from_sorted key_cmp_total (key_in columns) parts key sorted);
  same = λ key. by_parts key (part_in columns key parts) (part_in columns key rows) refl refl;
}
  where
    of_key : List (Option Value) → Numbered → Bool
    of_key key x = is_eq (key_cmp (key_in columns x) key)

    by_parts : (key : List (Option Value)) (ps rs : List Numbered) → part_in columns key parts ≡ ps → part_in columns key rows ≡ rs → part_in columns key parts ≡ part_in columns key rows
    by_parts key [] [] here there = here ∙ sym there
    by_parts key (e ∷ t) rs here there = same_at columns rows parts e key stable (filter_head (of_key key) parts t e here)
    by_parts key [] (e ∷ t) here there = same_at columns rows parts e key stable (filter_head (of_key key) rows t e there)
