-- A stream that comes or goes leaves every store and every stub as it is.
use Rattle.std.proofs.Common.{◌≡◌, ℕ, zero, suc, ◌+◌, ◌<◌, Bool, true, false, eqb, [], ◌∷◌, ◌++◌, length, set, refl, ap, subst, sym, ◌∙◌, arith, length-set, length-append, get_or-set_same, get_or-set_other}
use Rattle.std.specs.Prelude.{get_or}
use Rattle.std.proofs.lemmas.List.{set-get_or}
use Rattle.cql_store.specs.Held.{stub_of}
use Rattle.cql_store.proofs.Moved.{same_nat, far_nat}
use Rattle.cql_store.specs.StreamsLaw.{IsOneMore, IsAddLaw, IsRemoveLaw}
use Rattle.cql_store.specs.Stores.{OwnStores, AllStores, own_at, store_at}

-- a store with no stub behind the others is as none
bare_behind : (xs : OwnStores) (s : ℕ) → get_or (xs ++ [] ∷ []) s [] ≡ get_or xs s []
bare_behind [] zero = refl
bare_behind [] (suc s) = refl
bare_behind (x ∷ xs) zero = refl
bare_behind (x ∷ xs) (suc s) = bare_behind xs s

-- behind all stores there is none
none_behind : (xs : OwnStores) → get_or xs (length xs) [] ≡ []
none_behind [] = refl
none_behind (x ∷ xs) = none_behind xs

set_again : (all : AllStores) (owner : ℕ) (one two : OwnStores) → set (set all owner one) owner two ≡ set all owner two
set_again [] owner one two = refl
set_again (x ∷ xs) zero one two = refl
set_again (x ∷ xs) (suc owner) one two = ap (λ l. x ∷ l) (set_again xs owner one two)

module _ (old new : AllStores) (owner : ℕ) (lt : owner < length new) (owners : length new ≡ length old) (own : own_at new owner ≡ own_at old owner ++ [] ∷ []) (others : (o : ℕ) → eqb o owner ≡ false → own_at new o ≡ own_at old o) where
  stores_at : (o s : ℕ) (b : Bool) → eqb o owner ≡ b → store_at new o s ≡ store_at old o s
  stores_at o s false is = ap (λ l. get_or l s []) (others o is)
  stores_at o s true is =
      let e = same_nat o owner is in
      ap (λ p. store_at new p s) e ∙ ap (λ l. get_or l s []) own ∙ bare_behind (own_at old owner) s ∙ sym (ap (λ p. store_at old p s) e)

  length_own : length (own_at new owner) ≡ length (own_at old owner) + 1
  length_own = ap length own ∙ length-append (own_at old owner) ([] ∷ [])

  within_at : (o s : ℕ) (b : Bool) → eqb o owner ≡ b → s < length (own_at old o) → s < length (own_at new o)
  within_at o s false is h = subst (λ l. s < length l) (sym (others o is)) h
  within_at o s true is h =
      let e = same_nat o owner is in
      let h : s < length (own_at old owner) = subst (λ p. s < length (own_at old p)) e h in
      subst (λ p. s < length (own_at new p)) (sym e) (omega (arith, length_own))

  one_more : set new owner (own_at old owner) ≡ old → IsOneMore old new owner
  one_more back = record {
    owners = owners;
    own = own;
    others = others;
    stores = λ o s. stores_at o s _ refl;
    held = λ q. ap (λ t. stub_of t q.stub) (stores_at q.owner q.stream _ refl);
    streams = λ o s h. record { owned = omega (arith, h.owned, owners); within = within_at o s _ refl h.within };
    made = record { owned = lt; within = omega (arith, length_own) };
    bare = stores_at owner (length (own_at old owner)) _ refl ∙ none_behind (own_at old owner);
    back = back;
  }

pub add_law : IsAddLaw
add_law all owner lt =
    one_more all (set all owner (own_at all owner ++ [] ∷ [])) owner
    (subst (λ n. owner < n) (sym (length-set all owner (own_at all owner ++ [] ∷ []))) lt)
    (length-set all owner (own_at all owner ++ [] ∷ []))
    (get_or-set_same all owner (own_at all owner ++ [] ∷ []) [] lt)
    (λ o far. get_or-set_other all owner o (own_at all owner ++ [] ∷ []) [] (far_nat o owner far))
    (set_again all owner (own_at all owner ++ [] ∷ []) (own_at all owner) ∙ set-get_or all owner [])

pub remove_law : IsRemoveLaw
remove_law all owner front lt is =
    let own : own_at (set all owner front) owner ≡ front = get_or-set_same all owner front [] lt in
    one_more (set all owner front) all owner lt
    (sym (length-set all owner front))
    (is ∙ ap (λ l. l ++ [] ∷ []) (sym own))
    (λ o far. sym (get_or-set_other all owner o front [] (far_nat o owner far)))
    (ap (set all owner) own)
