-- Rows part by part, after one more.
use Rattle.std.proofs.Common.{◌≡◌, ℕ, List, [], ◌∷◌, ◌++◌, Option, Bool, true, false, ◌||◌, ◌&&◌, refl, sym, ap, ◌∙◌, subst}
use Rattle.std.specs.List.{filter, insert, prefix_len}
use Rattle.std.specs.declared.cmp.Ordering.{Ordering}
use Rattle.std.specs.declared.cmp.Ordering.TheVariants.{Less, Equal, Greater}
use Rattle.std.specs.Cmp.{tied_itself}
use Rattle.std.specs.Ordering.{is_lt, is_eq, ordering_reverse}
use Rattle.std.proofs.lemmas.List.{append-nil}
use Rattle.std.proofs.lemmas.List.Elements.{filter-append}
use Rattle.cql_value.specs.declared.value.Value.{Value}
use Rattle.cql_chunks.specs.declared.seq.Numbered.{Numbered}
use Rattle.cql_chunks.specs.Seq.{IsDown}
use Rattle.cql_window.specs.Key.{key_cmp, key_cmp_total}
use Rattle.cql_window.proofs.Keys.{key_exact}
use Rattle.cql_store.specs.Parts.{key_in, is_before, part_in, AreParted}
use Rattle.cql_store.proofs.Segments.{filter_true, filter_false, other_inserted, down_insert, seg_insert}

-- before a part is what is up to one that is
low_of : (also : Bool) (k e q : List (Option Value)) → (r s : Ordering) → key_cmp k e ≡ r → key_cmp e q ≡ s → (is_lt r || (true && is_eq r)) ≡ true → (is_lt s || (also && is_eq s)) ≡ true → (is_lt (key_cmp k q) || (also && is_eq (key_cmp k q))) ≡ true
low_of also k e q Less Less first then a b = ap (λ t. is_lt t || (also && is_eq t)) (key_cmp_total.trans k e q first then)
low_of also k e q Less Equal first then a b =
    let same : e ≡ q = key_exact e q (ap is_eq then) in
    ap (λ t. is_lt t || (also && is_eq t)) (ap (key_cmp k) (sym same) ∙ first)
low_of also k e q Less Greater first then a b = by_also also b
  where
    by_also : (also : Bool) → (is_lt Greater || (also && is_eq Greater)) ≡ true → (is_lt (key_cmp k q) || (also && is_eq (key_cmp k q))) ≡ true
    by_also true h = absurd cc
    by_also false h = absurd cc
low_of also k e q Equal s first then a b =
    let same : k ≡ e = key_exact k e (ap is_eq first) in
    ap (λ t. is_lt t || (also && is_eq t)) (ap (λ t. key_cmp t q) same ∙ then) ∙ b
low_of also k e q Greater s first then a b = absurd cc

-- and not before it is what is behind one that is not
high_of : (also : Bool) (k e q : List (Option Value)) → (r s t : Ordering) → key_cmp k e ≡ r → key_cmp e q ≡ s → key_cmp k q ≡ t → (is_lt r || (true && is_eq r)) ≡ false → (is_lt s || (also && is_eq s)) ≡ false → (is_lt t || (also && is_eq t)) ≡ false
high_of also k e q Less s t first then last a b = absurd cc
high_of also k e q Equal s t first then last a b = absurd cc
high_of also k e q Greater s Less first then last a b =
    let back : key_cmp e k ≡ Less = key_cmp_total.antisymm e k ∙ ap ordering_reverse first in
    let less : s ≡ Less = sym then ∙ key_cmp_total.trans e k q back last in
    absurd (let both : true ≡ false = sym (ap (λ o. is_lt o || (also && is_eq o)) less) ∙ b in cc)
high_of also k e q Greater s Equal first then last a b =
    let back : key_cmp e k ≡ Less = key_cmp_total.antisymm e k ∙ ap ordering_reverse first in
    let same : k ≡ q = key_exact k q (ap is_eq last) in
    let less : s ≡ Less = sym then ∙ ap (key_cmp e) (sym same) ∙ back in
    absurd (let both : true ≡ false = sym (ap (λ o. is_lt o || (also && is_eq o)) less) ∙ b in cc)
high_of true k e q Greater s Greater first then last a b = refl
high_of false k e q Greater s Greater first then last a b = refl

-- ---- one more row

more_same : (columns : List ℕ) (rows parts : List Numbered) (e : Numbered) → AreParted columns rows parts → part_in columns (key_in columns e) (insert parts (prefix_len (is_before columns (key_in columns e) true) parts) e) ≡ part_in columns (key_in columns e) (rows ++ e ∷ [])
more_same columns rows parts e parted =
    let own : key_cmp (key_in columns e) (key_in columns e) ≡ Equal = tied_itself key_cmp_total (key_in columns e) in
    let s : Numbered → Bool = λ x. is_eq (key_cmp (key_in columns x) (key_in columns e)) in
    seg_insert (λ x. key_cmp (key_in columns x) (key_in columns e)) parts e (parted.sorted (key_in columns e) true) own
    ∙ ap (λ l. l ++ e ∷ []) (parted.same (key_in columns e))
    ∙ ap (λ l. filter s rows ++ l) (sym (filter_true s e [] (ap is_eq own)))
    ∙ sym (filter-append s rows (e ∷ []))

other_same : (columns : List ℕ) (rows : List Numbered) (e : Numbered) (key : List (Option Value)) → is_eq (key_cmp (key_in columns e) key) ≡ false → part_in columns key (rows ++ e ∷ []) ≡ part_in columns key rows
other_same columns rows e key fails =
    let s : Numbered → Bool = λ x. is_eq (key_cmp (key_in columns x) key) in
    filter-append s rows (e ∷ []) ∙ ap (λ l. filter s rows ++ l) (filter_false s e [] fails) ∙ append-nil (filter s rows)

pub more_parted : (columns : List ℕ) (rows parts : List Numbered) (e : Numbered) → AreParted columns rows parts → AreParted columns (rows ++ e ∷ []) (insert parts (prefix_len (is_before columns (key_in columns e) true) parts) e)
more_parted columns rows parts e parted = record { sorted = more_sorted; same = λ key. by_test key (is_eq (key_cmp (key_in columns e) key)) refl }
  where
    index : ℕ
    index = prefix_len (is_before columns (key_in columns e) true) parts

    more_sorted : (key : List (Option Value)) (also : Bool) → IsDown (is_before columns key also) (insert parts index e)
    more_sorted key also =
        let own = key_in columns e in
        down_insert (is_before columns key also) (is_before columns own true) e
        (λ x a b. low_of also (key_in columns x) own key (key_cmp (key_in columns x) own) (key_cmp own key) refl refl a b)
        (λ x a b. high_of also (key_in columns x) own key (key_cmp (key_in columns x) own) (key_cmp own key) (key_cmp (key_in columns x) key) refl refl refl a b)
        parts (parted.sorted key also)

    by_test : (key : List (Option Value)) (b : Bool) → is_eq (key_cmp (key_in columns e) key) ≡ b → part_in columns key (insert parts index e) ≡ part_in columns key (rows ++ e ∷ [])
    by_test key true is = subst (λ k. part_in columns k (insert parts index e) ≡ part_in columns k (rows ++ e ∷ [])) (key_exact (key_in columns e) key is) (more_same columns rows parts e parted)
    by_test key false is = other_inserted (λ x. is_eq (key_cmp (key_in columns x) key)) parts index e is ∙ parted.same key ∙ sym (other_same columns rows e key is)
