-- The numbers of many stubs that are overrun, by one walk over all numbers.
use Rattle.std.proofs.Common.{◌≡◌, inl, inr, ℕ, ◌≤◌, ◌<◌, Bool, true, false, List, length, map, get_or, Option, Some, None, nat_lt, cond, refl, sym, ap, ◌∙◌, arith}
use Rattle.std.proofs.lemmas.Bool.Decides.{nat_tests}
use Rattle.std.proofs.lemmas.Bool.{cases_lt}
use Rattle.std.proofs.lemmas.List.{get_or_past}
use Rattle.cql_bag.specs.Levels.{changed_where}
use Rattle.cql_bag.proofs.Marked.{changed_at, length-changed_where}
use Rattle.cql_store.specs.declared.stub.Stub.{Stub}
use Rattle.cql_store.specs.Sequence.{Slots, slot_of, at_some, held_count, emptied, marked, greatest, limit, first_at, limit_at, AreOf, AreKnown, AreWithin}
use Rattle.cql_store.proofs.Keeps.{slot_map, marked_not}
use Rattle.cql_store.proofs.Numbers.{get_or_any, limit_live, past_limit, within_limit}

-- each number of a marked stub is the greatest, and each other stays
lifted_of : (number : Option Stub → ℕ) (slots : Slots) (limits xs : List ℕ) (count : ℕ) → number None ≡ greatest → ((s : Stub) → s.overrun ≡ true → number (Some s) ≡ greatest) → AreOf limit_at slots limits → AreWithin slots → count ≤ greatest → AreOf number slots xs → AreOf number (map (at_some (marked count)) slots) (changed_where limits count greatest xs)
lifted_of number slots limits xs count none over lims within top of = record {
  each = λ id. one id (slot_of slots id) refl ∙ ap number (sym (after id));
  covers = λ id t found. there id t (slot_of slots id) refl (sym (after id) ∙ found);
}
  where
    after : (id : ℕ) → slot_of (map (at_some (marked count)) slots) id ≡ at_some (marked count) (slot_of slots id)
    after id = slot_map (at_some (marked count)) slots id refl

    there : (id : ℕ) (t : Stub) (o : Option Stub) → slot_of slots id ≡ o → at_some (marked count) (slot_of slots id) ≡ Some t → id < length (changed_where limits count greatest xs)
    there id t None found is = absurd (let e : at_some (marked count) (slot_of slots id) ≡ None = ap (at_some (marked count)) found in cc)
    there id t (Some s) found is = let was : id < length xs = of.covers id s found in omega (arith, was, length-changed_where limits count greatest xs)

    -- whatever it was, a number that is the greatest stays
    stays : (id : ℕ) → get_or xs id greatest ≡ greatest → get_or (changed_where limits count greatest xs) id greatest ≡ greatest
    stays id is = elim (cases_lt id (length xs)) [
      | inl inside ↦ changed_at limits count greatest xs id greatest inside ∙ ap (cond (nat_lt (get_or limits id count) count) greatest) is ∙ same (nat_lt (get_or limits id count) count)
      | inr past ↦ get_or_past (changed_where limits count greatest xs) id greatest (omega (arith, past, length-changed_where limits count greatest xs))
    ]
      where
        same : (b : Bool) → cond b greatest greatest ≡ greatest
        same true = refl
        same false = refl

    live : (id : ℕ) (s : Stub) → slot_of slots id ≡ Some s → s.overrun ≡ false → (b : Bool) → nat_lt (limit s) count ≡ b → get_or (changed_where limits count greatest xs) id greatest ≡ number (Some (marked count s))
    live id s found alive b test =
        let inside : id < length xs = of.covers id s found in
        let beside : id < length limits = lims.covers id s found in
        let at : get_or limits id count ≡ limit s = get_or_any limits id count greatest beside ∙ lims.each id ∙ ap limit_at found ∙ limit_live s alive in
        changed_at limits count greatest xs id greatest inside ∙ ap (λ n. cond (nat_lt n count) greatest (get_or xs id greatest)) at ∙ ap (λ c. cond c greatest (get_or xs id greatest)) test ∙ by b test
      where
        by : (b : Bool) → nat_lt (limit s) count ≡ b → cond b greatest (get_or xs id greatest) ≡ number (Some (marked count s))
        by true test =
            let low : limit s < count = grind (arith, nat_tests, test) in
            let past : nat_lt s.hold (held_count count s) ≡ true = past_limit count s low top in
            let is : marked count s ≡ emptied s = grind (arith, alive, past) in
            sym (ap (λ (t : Stub). number (Some t)) is ∙ over (emptied s) refl)
        by false test =
            let high : count ≤ limit s = grind (arith, nat_tests, test) in
            let is : marked count s ≡ s = marked_not count s alive (within_limit count s high (within id s (record { held = found; live = alive }))) in
            of.each id ∙ ap number found ∙ sym (ap (λ (t : Stub). number (Some t)) is)

    some : (id : ℕ) (s : Stub) → slot_of slots id ≡ Some s → (b : Bool) → s.overrun ≡ b → get_or (changed_where limits count greatest xs) id greatest ≡ number (Some (marked count s))
    some id s found true gone =
        let is : marked count s ≡ emptied s = grind (arith, gone) in
        stays id (of.each id ∙ ap number found ∙ over s gone) ∙ sym (ap (λ (t : Stub). number (Some t)) is ∙ over (emptied s) refl)
    some id s found false alive = live id s found alive (nat_lt (limit s) count) refl

    one : (id : ℕ) (o : Option Stub) → slot_of slots id ≡ o → get_or (changed_where limits count greatest xs) id greatest ≡ number (at_some (marked count) (slot_of slots id))
    one id None found = stays id (of.each id ∙ ap number found ∙ none) ∙ sym (ap (λ o. number (at_some (marked count) o)) found ∙ none)
    one id (Some s) found = some id s found s.overrun refl ∙ sym (ap (λ o. number (at_some (marked count) o)) found)

pub known_lifted : (slots : Slots) (firsts limits : List ℕ) (count : ℕ) → AreKnown slots firsts limits → AreWithin slots → count ≤ greatest → AreKnown (map (at_some (marked count)) slots) (changed_where limits count greatest firsts) (changed_where limits count greatest limits)
known_lifted slots firsts limits count known within top = record {
  of_firsts = lifted_of first_at slots limits firsts count refl (λ s over. ap (λ b. cond b greatest s.first) over) known.of_limits within top known.of_firsts;
  of_limits = lifted_of limit_at slots limits limits count refl (λ s over. ap (λ b. cond b greatest (limit s)) over) known.of_limits within top known.of_limits;
}
