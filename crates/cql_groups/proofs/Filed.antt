-- Groups in slots, as their index finds them, when one of them is changed, put in or taken out.
use Rattle.std.proofs.Common.{◌≡◌, ◌≢◌, inl, inr, ℕ, List, [], ◌∷◌, Bool, true, false, cond, Option, Some, None, refl, sym, ap, ◌∙◌, subst, Less, Equal, Greater}
use Rattle.std.specs.Prelude.{IsSome, slice_index_or}
use Rattle.std.specs.List.{All, AllByRecursion}
use Rattle.std.proofs.lemmas.List.Elements.{All-from_recursion}
use Rattle.std.specs.List.Sorted.{IsStrictlySortedBy}
use Rattle.std.specs.Map.{keys_of, set_value, remove_entry}
use Rattle.std.specs.BTreeMap.{insert_entry}
use Rattle.std.specs.Ordering.{is_eq, match_ordering}
use Rattle.std.proofs.lemmas.Bool.Decides.{eqb_tells}
use Rattle.slab.specs.Slab.{Slab, get, with_value, Updates}
use Rattle.slab.proofs.SlabLemmas.{Updates-with_value}
use Rattle.cql_value.specs.Order.{row_cmp, row_cmp_exact}
use Rattle.cql_value.specs.declared.value.Value.{Value}
use Rattle.cql_value.proofs.Ties.{tied, ties, ties_itself}
use Rattle.cql_bag.specs.declared.change.Change.{Change}
use Rattle.cql_groups.specs.declared.accumulator.AccumulatorKind.{AccumulatorKind}
use Rattle.cql_bag.specs.Bag.{Counts}
use Rattle.cql_groups.specs.Grouped.{at_key, IsChangedAt, IsChangedOne, IsGrouping, lacking_groups, told_of}
use Rattle.cql_groups.specs.Layouts.{IsLayout}
use Rattle.cql_groups.specs.declared.layout.Layout.{Layout}
use Rattle.cql_groups.specs.Filed.{with_group, entries_in, IsAt, slot_of_key, AreFiled}
use Rattle.cql_groups.proofs.GroupingLaws.{changed_some}
use Rattle.cql_groups.specs.declared.group.Group.{Group}

abbrev Row : Type 0
Row = List Value

abbrev Index : Type 0
Index = List (Row × ℕ)

abbrev Groups : Type 0
Groups = List (Row × Group)

abbrev at_test : Row → Row → Bool
at_test key k = is_eq (row_cmp key k)

abbrev ArePlaced : Index → Slab Group → Type 0
ArePlaced index slots = AllByRecursion (λ (e : Row × ℕ). IsAt slots e.1 e.0) index

one_group : (x y : Group) → Some x ≡ Some y → x ≡ y
one_group x y h = cc

one_slot : (m n : ℕ) → Some m ≡ Some n → m ≡ n
one_slot m n h = cc

-- ---- what the index finds

abbrev slot_group : Option ℕ → Slab Group → Option Group
slot_group None slots = None
slot_group (Some at) slots = get slots at

seen_at : (q : Row) (index : Index) (slots : Slab Group) → ArePlaced index slots → at_key q (entries_in index slots) ≡ slot_group (slot_of_key q index) slots
seen_at q [] slots placed = refl
seen_at q (e ∷ index) slots placed =
    ap (λ o. at_key q (with_group e.0 o (entries_in index slots))) placed.0.1
    ∙ elim (at_test q e.0) as (λ b. cond b (Some placed.0.0) (at_key q (entries_in index slots)) ≡ slot_group (cond b (Some e.1) (slot_of_key q index)) slots) [
      | true ↦ sym placed.0.1
      | false ↦ seen_at q index slots placed.1
    ]

placed_at : (q : Row) (at : ℕ) (index : Index) (slots : Slab Group) → ArePlaced index slots → slot_of_key q index ≡ Some at → IsAt slots at q
placed_at q at [] slots placed found = absurd cc
placed_at q at (e ∷ index) slots placed found =
    elim (at_test q e.0) as (λ b. at_test q e.0 ≡ b → cond b (Some e.1) (slot_of_key q index) ≡ Some at → IsAt slots at q) [
      | true ↦ λ b f. subst (λ j. IsAt slots j q) (one_slot e.1 at f) (placed.0.0, placed.0.1, placed.0.2 ∙ sym (tied q e.0 b))
      | false ↦ λ b f. placed_at q at index slots placed.1 f
    ] refl found

-- the slot that the index finds has the group that the entries have
pub group_found : (key : Row) (at : ℕ) (index : Index) (slots : Slab Group) → AreFiled index slots → slot_of_key key index ≡ Some at → at_key key (entries_in index slots) ≡ get slots at
group_found key at index slots filed found = seen_at key index slots filed.placed ∙ ap (λ o. slot_group o slots) found

pub group_missing : (key : Row) (index : Index) (slots : Slab Group) → AreFiled index slots → slot_of_key key index ≡ None → at_key key (entries_in index slots) ≡ None
group_missing key index slots filed none = seen_at key index slots filed.placed ∙ ap (λ o. slot_group o slots) none

pub slot_missing : (key : Row) (index : Index) (slots : Slab Group) → AreFiled index slots → at_key key (entries_in index slots) ≡ None → slot_of_key key index ≡ None
slot_missing key index slots filed none = by_slot (slot_of_key key index) refl
  where
    by_slot : (o : Option ℕ) → slot_of_key key index ≡ o → slot_of_key key index ≡ None
    by_slot None h = h
    by_slot (Some at) h = absurd (let is = placed_at key at index slots filed.placed h in let e : None ≡ Some is.0 = sym none ∙ group_found key at index slots filed h ∙ is.1 in cc)

pub found_at : (key : Row) (at : ℕ) (index : Index) (slots : Slab Group) → AreFiled index slots → slot_of_key key index ≡ Some at → IsAt slots at key
found_at key at index slots filed found = placed_at key at index slots filed.placed found

-- a group that stands in a slot is found there
pub slot_found : (key : Row) (at : ℕ) (index : Index) (slots : Slab Group) → AreFiled index slots → IsAt slots at key → slot_of_key key index ≡ Some at
slot_found key at index slots filed is = subst (λ k. slot_of_key k index ≡ Some at) is.2 (filed.named at is.0 is.1)

-- ---- one slot is written

module _ (at : ℕ) (slots now : Slab Group) (others : (j : ℕ) → j ≢ at → get now j ≡ get slots j) where
  -- entries of other slots
  apart_same : (index : Index) → ArePlaced index slots → AllByRecursion (λ (e : Row × ℕ). IsAt slots at e.0 → ⊥) index → (entries_in index now ≡ entries_in index slots) × ArePlaced index now
  apart_same [] placed apart = (refl, tt)
  apart_same (e ∷ index) placed apart =
      let same : get now e.1 ≡ get slots e.1 = others e.1 (λ i. apart.0 (subst (λ j. IsAt slots j e.0) i placed.0)) in
      let rest = apart_same index placed.1 apart.1 in
      (ap (λ o. with_group e.0 o (entries_in index now)) same ∙ ap (with_group e.0 (get slots e.1)) rest.0, ((placed.0.0, same ∙ placed.0.1, placed.0.2), rest.1))

  -- what is seen of the keys
  seen_new : (index after : Index) → ArePlaced index slots → ArePlaced after now → (key : Row) (to : Option ℕ) (w : Option Group) → slot_group to now ≡ w → ((q : Row) → slot_of_key q after ≡ cond (at_test key q) to (slot_of_key q index)) → ((q : Row) → at_test key q ≡ false → IsAt slots at q → ⊥)
      → (q : Row) → at_key q (entries_in after now) ≡ cond (at_test key q) w (at_key q (entries_in index slots))
  seen_new index after placed placed_now key to w is looks apart q =
      seen_at q after now placed_now ∙ ap (λ o. slot_group o now) (looks q)
      ∙ elim (at_test key q) as (λ b. at_test key q ≡ b → slot_group (cond b to (slot_of_key q index)) now ≡ cond b w (at_key q (entries_in index slots))) [
        | true ↦ λ b. is
        | false ↦ λ b. by_slot (slot_of_key q index) refl b ∙ sym (seen_at q index slots placed)
      ] refl
    where
      by_slot : (o : Option ℕ) → slot_of_key q index ≡ o → at_test key q ≡ false → slot_group o now ≡ slot_group (slot_of_key q index) slots
      by_slot None h b = sym (ap (λ o. slot_group o slots) h)
      by_slot (Some j) h b = others j (λ i. apart q b (subst (λ k. IsAt slots k q) i (placed_at q j index slots placed h))) ∙ sym (ap (λ o. slot_group o slots) h)

  -- the slot has the group of a key
  module _ (key : Row) (is : IsAt slots at key) where
    not_other : (q : Row) → at_test key q ≡ false → IsAt slots at q → ⊥
    not_other q f there =
        let keys : key ≡ q = sym is.2 ∙ ap (λ (x : Group). x.key) (one_group is.0 there.0 (sym is.1 ∙ there.1)) ∙ there.2 in
        let t : true ≡ false = sym (ties key q keys) ∙ f in cc

    all_apart : (index : Index) → AllByRecursion (λ y. row_cmp key y ≡ Less) (keys_of index) → AllByRecursion (λ (e : Row × ℕ). IsAt slots at e.0 → ⊥) index
    all_apart [] up = tt
    all_apart (e ∷ index) up = (not_other e.0 (ap is_eq up.0), all_apart index up.1)

    set_in : (new : Group) → get now at ≡ Some new → new.key ≡ key → (index : Index) → IsStrictlySortedBy row_cmp (keys_of index) → ArePlaced index slots → slot_of_key key index ≡ Some at
        → (entries_in index now ≡ set_value (at_test key) (entries_in index slots) new) × ArePlaced index now
    unfolding IsStrictlySortedBy
    set_in new is_now name [] up placed found = absurd cc
    set_in new is_now name (e ∷ index) up placed found =
        elim (at_test key e.0) as (λ b. at_test key e.0 ≡ b → cond b (Some e.1) (slot_of_key key index) ≡ Some at → (with_group e.0 (get now e.1) (entries_in index now) ≡ set_value (at_test key) (with_group e.0 (get slots e.1) (entries_in index slots)) new) × ArePlaced (e ∷ index) now) [
          | true ↦ λ b f.
              let there : get now e.1 ≡ Some new = ap (get now) (one_slot e.1 at f) ∙ is_now in
              let names = tied key e.0 b in
              let rest = apart_same index placed.1 (all_apart index (subst (λ k. AllByRecursion (λ y. row_cmp k y ≡ Less) (keys_of index)) (sym names) up.0)) in
              (ap (λ o. with_group e.0 o (entries_in index now)) there ∙ ap (λ l. (e.0, new) ∷ l) rest.0 ∙ sym (before b), ((new, there, name ∙ names), rest.1))
          | false ↦ λ b f.
              let same : get now e.1 ≡ get slots e.1 = others e.1 (λ i. not_other e.0 b (subst (λ j. IsAt slots j e.0) i placed.0)) in
              let rest = set_in new is_now name index up.1 placed.1 f in
              (ap (λ o. with_group e.0 o (entries_in index now)) (same ∙ placed.0.1) ∙ ap (λ l. (e.0, placed.0.0) ∷ l) rest.0 ∙ sym (behind b), ((placed.0.0, same ∙ placed.0.1, placed.0.2), rest.1))
        ] refl found
      where
        either : (b : Bool) → at_test key e.0 ≡ b → set_value (at_test key) (with_group e.0 (get slots e.1) (entries_in index slots)) new ≡ cond b ((e.0, new) ∷ entries_in index slots) ((e.0, placed.0.0) ∷ set_value (at_test key) (entries_in index slots) new)
        either b h = ap (λ o. set_value (at_test key) (with_group e.0 o (entries_in index slots)) new) placed.0.1 ∙ ap (λ c. cond c ((e.0, new) ∷ entries_in index slots) ((e.0, placed.0.0) ∷ set_value (at_test key) (entries_in index slots) new)) h

        before : at_test key e.0 ≡ true → set_value (at_test key) (with_group e.0 (get slots e.1) (entries_in index slots)) new ≡ (e.0, new) ∷ entries_in index slots
        before h = either true h

        behind : at_test key e.0 ≡ false → set_value (at_test key) (with_group e.0 (get slots e.1) (entries_in index slots)) new ≡ (e.0, placed.0.0) ∷ set_value (at_test key) (entries_in index slots) new
        behind h = either false h

    gone_in : (index : Index) → IsStrictlySortedBy row_cmp (keys_of index) → ArePlaced index slots → (entries_in (remove_entry (at_test key) index) now ≡ remove_entry (at_test key) (entries_in index slots)) × ArePlaced (remove_entry (at_test key) index) now
    unfolding IsStrictlySortedBy
    gone_in [] up placed = (refl, tt)
    gone_in (e ∷ index) up placed =
        elim (at_test key e.0) as (λ b. at_test key e.0 ≡ b → (entries_in (cond b index (e ∷ remove_entry (at_test key) index)) now ≡ remove_entry (at_test key) (with_group e.0 (get slots e.1) (entries_in index slots))) × ArePlaced (cond b index (e ∷ remove_entry (at_test key) index)) now) [
          | true ↦ λ b.
              let rest = apart_same index placed.1 (all_apart index (subst (λ k. AllByRecursion (λ y. row_cmp k y ≡ Less) (keys_of index)) (sym (tied key e.0 b)) up.0)) in
              (rest.0 ∙ sym (either true b), rest.1)
          | false ↦ λ b.
              let same : get now e.1 ≡ get slots e.1 = others e.1 (λ i. not_other e.0 b (subst (λ j. IsAt slots j e.0) i placed.0)) in
              let rest = gone_in index up.1 placed.1 in
              (ap (λ o. with_group e.0 o (entries_in (remove_entry (at_test key) index) now)) (same ∙ placed.0.1) ∙ ap (λ l. (e.0, placed.0.0) ∷ l) rest.0 ∙ sym (either false b), ((placed.0.0, same ∙ placed.0.1, placed.0.2), rest.1))
        ] refl
      where
        either : (b : Bool) → at_test key e.0 ≡ b → remove_entry (at_test key) (with_group e.0 (get slots e.1) (entries_in index slots)) ≡ cond b (entries_in index slots) ((e.0, placed.0.0) ∷ remove_entry (at_test key) (entries_in index slots))
        either b h = ap (λ o. remove_entry (at_test key) (with_group e.0 o (entries_in index slots))) placed.0.1 ∙ ap (λ c. cond c (entries_in index slots) ((e.0, placed.0.0) ∷ remove_entry (at_test key) (entries_in index slots))) h

  -- the slot has none yet
  put_in : (key : Row) (new : Group) → get slots at ≡ None → get now at ≡ Some new → new.key ≡ key → (index : Index) → ArePlaced index slots → (entries_in (insert_entry row_cmp index key at) now ≡ insert_entry row_cmp (entries_in index slots) key new) × ArePlaced (insert_entry row_cmp index key at) now
  put_in key new free is_now name [] placed = (ap (λ o. with_group key o []) is_now, ((new, is_now, name), tt))
  put_in key new free is_now name (e ∷ index) placed =
      elim (row_cmp key e.0) as (λ o. row_cmp key e.0 ≡ o → (entries_in (match_ordering o ((key, at) ∷ e ∷ index) ((e.0, at) ∷ index) (e ∷ insert_entry row_cmp index key at)) now ≡ insert_entry row_cmp (with_group e.0 (get slots e.1) (entries_in index slots)) key new) × ArePlaced (match_ordering o ((key, at) ∷ e ∷ index) ((e.0, at) ∷ index) (e ∷ insert_entry row_cmp index key at)) now) [
        | Less ↦ λ o.
            let rest = apart_same (e ∷ index) placed (all_free (e ∷ index)) in
            (ap (λ g. with_group key g (entries_in (e ∷ index) now)) is_now ∙ ap (λ l. (key, new) ∷ l) (rest.0 ∙ ap (λ g. with_group e.0 g (entries_in index slots)) placed.0.1) ∙ sym (either Less o), ((new, is_now, name), rest.1))
        | Equal ↦ λ o.
            let rest = apart_same index placed.1 (all_free index) in
            (ap (λ g. with_group e.0 g (entries_in index now)) is_now ∙ ap (λ l. (e.0, new) ∷ l) rest.0 ∙ sym (either Equal o), ((new, is_now, name ∙ row_cmp_exact key e.0 o), rest.1))
        | Greater ↦ λ o.
            let same : get now e.1 ≡ get slots e.1 = others e.1 (λ i. is_free e.0 (subst (λ j. IsAt slots j e.0) i placed.0)) in
            let rest = put_in key new free is_now name index placed.1 in
            (ap (λ g. with_group e.0 g (entries_in (insert_entry row_cmp index key at) now)) (same ∙ placed.0.1) ∙ ap (λ l. (e.0, placed.0.0) ∷ l) rest.0 ∙ sym (either Greater o), ((placed.0.0, same ∙ placed.0.1, placed.0.2), rest.1))
      ] refl
    where
      is_free : (q : Row) → IsAt slots at q → ⊥
      is_free q there = let e : None ≡ Some there.0 = sym free ∙ there.1 in cc

      all_free : (rest : Index) → AllByRecursion (λ (e : Row × ℕ). IsAt slots at e.0 → ⊥) rest
      all_free [] = tt
      all_free (e ∷ rest) = (is_free e.0, all_free rest)

      either : (o : _) → row_cmp key e.0 ≡ o → insert_entry row_cmp (with_group e.0 (get slots e.1) (entries_in index slots)) key new ≡ match_ordering o ((key, new) ∷ (e.0, placed.0.0) ∷ entries_in index slots) ((e.0, new) ∷ entries_in index slots) ((e.0, placed.0.0) ∷ insert_entry row_cmp (entries_in index slots) key new)
      either o h = ap (λ g. insert_entry row_cmp (with_group e.0 g (entries_in index slots)) key new) placed.0.1 ∙ ap (λ c. match_ordering c ((key, new) ∷ (e.0, placed.0.0) ∷ entries_in index slots) ((e.0, new) ∷ entries_in index slots) ((e.0, placed.0.0) ∷ insert_entry row_cmp (entries_in index slots) key new)) h

-- ---- the index names each group

pub record IsSeen (key : Row) (w : Option Group) (before after : Groups) : Type 0 where
  pub looks : (q : Row) → at_key q after ≡ cond (at_test key q) w (at_key q before)

module _ (index : Index) (slots now : Slab Group) (filed : AreFiled index slots) (key : Row) (at : ℕ) (others : (j : ℕ) → j ≢ at → get now j ≡ get slots j) where
  -- a group is written where it stands
  module _ (found : slot_of_key key index ≡ Some at) (new : Group) (is_now : get now at ≡ Some new) (name : new.key ≡ key) where
    its_slot : IsAt slots at key
    its_slot = found_at key at index slots filed found

    set_both : (entries_in index now ≡ set_value (at_test key) (entries_in index slots) new) × ArePlaced index now
    set_both = set_in at slots now others key its_slot new is_now name index filed.sorted filed.placed found

    pub set_entries : entries_in index now ≡ set_value (at_test key) (entries_in index slots) new
    set_entries = set_both.0

    pub set_looks : (q : Row) → at_key q (entries_in index now) ≡ cond (at_test key q) (Some new) (at_key q (entries_in index slots))
    set_looks = seen_new at slots now others index index filed.placed set_both.1 key (Some at) (Some new) is_now same (not_other at slots now others key its_slot)
      where
        same : (q : Row) → slot_of_key q index ≡ cond (at_test key q) (Some at) (slot_of_key q index)
        same q = elim (at_test key q) as (λ b. at_test key q ≡ b → slot_of_key q index ≡ cond b (Some at) (slot_of_key q index)) [
          | true ↦ λ b. subst (λ k. slot_of_key k index ≡ Some at) (tied key q b) found
          | false ↦ λ b. refl
        ] refl

    pub set_filed : AreFiled index now
    set_filed = record {
      placed = set_both.1;
      sorted = filed.sorted;
      named = λ j h there. elim (eqb_tells j at) [
        | inl y ↦ subst (λ k. slot_of_key k index ≡ Some j) (sym name ∙ ap (λ (x : Group). x.key) (one_group new h (sym is_now ∙ ap (get now) (sym y.1) ∙ there))) (found ∙ ap (λ n. Some n) (sym y.1))
        | inr n ↦ filed.named j h (sym (others j n.1) ∙ there)
      ];
    }

  -- a group is put in
  module _ (none : slot_of_key key index ≡ None) (free : get slots at ≡ None) (new : Group) (is_now : get now at ≡ Some new) (name : new.key ≡ key) (after : Index) (is : after ≡ insert_entry row_cmp index key at)
      (up : IsStrictlySortedBy row_cmp (keys_of after)) (looks : (q : Row) → slot_of_key q after ≡ cond (at_test key q) (Some at) (slot_of_key q index)) where
    put_both : (entries_in after now ≡ insert_entry row_cmp (entries_in index slots) key new) × ArePlaced after now
    put_both = subst (λ i. (entries_in i now ≡ insert_entry row_cmp (entries_in index slots) key new) × ArePlaced i now) (sym is) (put_in at slots now others key new free is_now name index filed.placed)

    pub put_entries : entries_in after now ≡ insert_entry row_cmp (entries_in index slots) key new
    put_entries = put_both.0

    pub put_looks : (q : Row) → at_key q (entries_in after now) ≡ cond (at_test key q) (Some new) (at_key q (entries_in index slots))
    put_looks = seen_new at slots now others index after filed.placed put_both.1 key (Some at) (Some new) is_now looks (λ q _ there. let e : None ≡ Some there.0 = sym free ∙ there.1 in cc)

    pub put_filed : AreFiled after now
    put_filed = record {
      placed = put_both.1;
      sorted = up;
      named = λ j h there. elim (eqb_tells j at) [
        | inl y ↦ subst (λ k. slot_of_key k after ≡ Some j) (sym name ∙ ap (λ (x : Group). x.key) (one_group new h (sym is_now ∙ ap (get now) (sym y.1) ∙ there))) (looks key ∙ ap (λ b. cond b (Some at) (slot_of_key key index)) (ties_itself key) ∙ ap (λ n. Some n) (sym y.1))
        | inr n ↦ looks h.key ∙ old h.key j (filed.named j h (sym (others j n.1) ∙ there))
      ];
    }
      where
        old : (q : Row) (j : ℕ) → slot_of_key q index ≡ Some j → cond (at_test key q) (Some at) (slot_of_key q index) ≡ Some j
        old q j h = elim (at_test key q) as (λ b. at_test key q ≡ b → cond b (Some at) (slot_of_key q index) ≡ Some j) [
          | true ↦ λ b. absurd (let e : None ≡ Some j = sym none ∙ ap (λ k. slot_of_key k index) (tied key q b) ∙ h in cc)
          | false ↦ λ b. h
        ] refl

  -- a group is taken out
  module _ (found : slot_of_key key index ≡ Some at) (is_now : get now at ≡ None) (after : Index) (is : after ≡ remove_entry (at_test key) index) (up : IsStrictlySortedBy row_cmp (keys_of after))
      (looks : (q : Row) → slot_of_key q after ≡ cond (at_test key q) None (slot_of_key q index)) where
    left_slot : IsAt slots at key
    left_slot = found_at key at index slots filed found

    gone_both : (entries_in after now ≡ remove_entry (at_test key) (entries_in index slots)) × ArePlaced after now
    gone_both = subst (λ i. (entries_in i now ≡ remove_entry (at_test key) (entries_in index slots)) × ArePlaced i now) (sym is) (gone_in at slots now others key left_slot index filed.sorted filed.placed)

    pub gone_entries : entries_in after now ≡ remove_entry (at_test key) (entries_in index slots)
    gone_entries = gone_both.0

    pub gone_looks : (q : Row) → at_key q (entries_in after now) ≡ cond (at_test key q) None (at_key q (entries_in index slots))
    gone_looks = seen_new at slots now others index after filed.placed gone_both.1 key None None refl looks (not_other at slots now others key left_slot)

    pub gone_filed : AreFiled after now
    gone_filed = record {
      placed = gone_both.1;
      sorted = up;
      named = λ j h there. elim (eqb_tells j at) [
        | inl y ↦ absurd (let e : None ≡ Some h = sym is_now ∙ ap (get now) (sym y.1) ∙ there in cc)
        | inr n ↦ looks h.key ∙ old h.key j n.1 (filed.named j h (sym (others j n.1) ∙ there))
      ];
    }
      where
        old : (q : Row) (j : ℕ) → j ≢ at → slot_of_key q index ≡ Some j → cond (at_test key q) None (slot_of_key q index) ≡ Some j
        old q j n h = elim (at_test key q) as (λ b. at_test key q ≡ b → cond b None (slot_of_key q index) ≡ Some j) [
          | true ↦ λ b. absurd (n (one_slot j at (sym h ∙ ap (λ k. slot_of_key k index) (sym (tied key q b)) ∙ found)))
          | false ↦ λ b. h
        ] refl

-- ---- the group in the slot of a key

module _ (index : Index) (slots : Slab Group) (filed : AreFiled index slots) (key : Row) (at : ℕ) (found : slot_of_key key index ≡ Some at) (was : Group) (there : get slots at ≡ Some was) where
  pub group_at : at_key key (entries_in index slots) ≡ Some was
  group_at = group_found key at index slots filed found ∙ there

  module _ (new : Group) (same : new.key ≡ was.key) where
    abbrev now : Slab Group
    now = with_value slots at new

    written : Updates slots now at (Some new)
    written = Updates-with_value slots at new (subst (λ (o : Option Group). IsSome o) (sym there) refl)

    name : new.key ≡ key
    name =
        let is = found_at key at index slots filed found in
        same ∙ ap (λ (x : Group). x.key) (one_group was is.0 (sym there ∙ is.1)) ∙ is.2

    pub written_filed : AreFiled index now
    written_filed = set_filed index slots now filed key at written.others found new written.changed name

    pub written_is : IsAt now at key
    written_is = (new, written.changed, name)

    pub written_entries : entries_in index now ≡ set_value (at_test key) (entries_in index slots) new
    written_entries = set_entries index slots now filed key at written.others found new written.changed name

    pub written_looks : (q : Row) → at_key q (entries_in index now) ≡ cond (at_test key q) (Some new) (at_key q (entries_in index slots))
    written_looks = set_looks index slots now filed key at written.others found new written.changed name

  pub changed_at : (new : Group) (asked : List AccumulatorKind) (c : Change) (left more : List Row) (before after : ℕ) (it : IsChangedOne c was new left more before after) → IsChangedAt asked c key (entries_in index slots) (entries_in index (with_value slots at new)) left more before after
  changed_at new asked c left more before after it =
      changed_some asked c key (entries_in index slots) (entries_in index (with_value slots at new)) left more before after was new (sym group_at) it.group (written_entries new it.group.key) (written_looks new it.group.key) it.touched it.lacking

-- ---- all of them

keys_are : (index : Index) (slots : Slab Group) → ArePlaced index slots → keys_of (entries_in index slots) ≡ keys_of index
keys_are [] slots placed = refl
keys_are (e ∷ index) slots placed = ap (λ o. keys_of (with_group e.0 o (entries_in index slots))) placed.0.1 ∙ ap (λ l. e.0 ∷ l) (keys_are index slots placed.1)

pub entries_sorted : (index : Index) (slots : Slab Group) → AreFiled index slots → IsStrictlySortedBy row_cmp (keys_of (entries_in index slots))
entries_sorted index slots filed = subst (IsStrictlySortedBy row_cmp) (sym (keys_are index slots filed.placed)) filed.sorted

abbrev IsFoundIn : Groups → Row × Group → Type 0
IsFoundIn es e = at_key e.0 es ≡ Some e.1

-- keys in order are found
index_found : (index : Index) → IsStrictlySortedBy row_cmp (keys_of index) → AllByRecursion (λ (e : Row × ℕ). slot_of_key e.0 index ≡ Some e.1) index
unfolding IsStrictlySortedBy
index_found [] up = tt
index_found (e ∷ index) up = (ap (λ b. cond b (Some e.1) (slot_of_key e.0 index)) (ties_itself e.0), behind index index up.0 (index_found index up.1))
  where
    apart : (q : Row) → row_cmp e.0 q ≡ Less → at_test q e.0 ≡ false
    apart q h = elim (at_test q e.0) as (λ b. at_test q e.0 ≡ b → b ≡ false) [
      | true ↦ λ t. sym (ties e.0 q (sym (tied q e.0 t))) ∙ ap is_eq h
      | false ↦ λ t. refl
    ] refl

    behind : (part whole : Index) → AllByRecursion (λ y. row_cmp e.0 y ≡ Less) (keys_of part) → AllByRecursion (λ (f : Row × ℕ). slot_of_key f.0 whole ≡ Some f.1) part → AllByRecursion (λ (f : Row × ℕ). slot_of_key f.0 (e ∷ whole) ≡ Some f.1) part
    behind [] whole up found = tt
    behind (f ∷ part) whole up found = (ap (λ b. cond b (Some e.1) (slot_of_key f.0 whole)) (apart f.0 up.0) ∙ found.0, behind part whole up.1 found.1)

pub entries_found : (index : Index) (slots : Slab Group) → AreFiled index slots → All (λ (e : Row × Group). at_key e.0 (entries_in index slots) ≡ Some e.1) (entries_in index slots)
entries_found index slots filed = All-from_recursion (IsFoundIn (entries_in index slots)) (entries_in index slots) (each index filed.placed (index_found index filed.sorted))
  where
    each : (part : Index) → ArePlaced part slots → AllByRecursion (λ (e : Row × ℕ). slot_of_key e.0 index ≡ Some e.1) part → AllByRecursion (IsFoundIn (entries_in index slots)) (entries_in part slots)
    each [] placed all = tt
    each (e ∷ part) placed all =
        subst (λ o. AllByRecursion (IsFoundIn (entries_in index slots)) (with_group e.0 o (entries_in part slots))) (sym placed.0.1) (group_found e.0 e.1 index slots filed all.0 ∙ placed.0.1, each part placed.1 all.1)

-- ---- none of them

no_group : (slots : Slab Group) → slots.slots ≡ [] → (at : ℕ) → get slots at ≡ None
no_group slots none at = ap (λ l. slice_index_or l at None) none

pub nothing_kept : (layout : Layout) → IsLayout layout → (port : Counts) → port ≡ [] → (index : Index) → index ≡ [] → (slots : Slab Group) → slots.slots ≡ [] → (left : List Row) → left ≡ []
    → IsGrouping layout port (told_of (entries_in index slots)) (entries_in index slots) left × AreFiled index slots × (0 ≡ lacking_groups layout.shape port)
unfolding IsStrictlySortedBy
nothing_kept layout is port no_rows index no_entries slots no_slots left none_left =
    subst (λ p. IsGrouping layout p (told_of (entries_in index slots)) (entries_in index slots) left × AreFiled index slots × (0 ≡ lacking_groups layout.shape p)) (sym no_rows)
    (subst (λ i. IsGrouping layout [] (told_of (entries_in i slots)) (entries_in i slots) left × AreFiled i slots × (0 ≡ lacking_groups layout.shape [])) (sym no_entries) (grouping, filed, refl))
  where
    grouping : IsGrouping layout [] [] [] left
    grouping = record { layout = is; in_port = tt; port_bag = tt; told_bag = tt; held = λ key. refl; rows = λ row. refl }

    filed : AreFiled [] slots
    filed = record { placed = tt; sorted = tt; named = λ at g there. let e : None ≡ Some g = sym (no_group slots no_slots at) ∙ there in absurd cc }
