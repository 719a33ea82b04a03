-- A change of one owner's stores is one of all stores.
use Rattle.std.proofs.Common.{◌≡◌, ℕ, zero, suc, ◌<◌, Bool, true, false, ◌&&◌, eqb, List, [], ◌∷◌, length, map, set, refl, ap, subst, sym, ◌∙◌, arith, eq-eqb, length-set, get_or-set_same, get_or-set_other}
use Rattle.std.specs.Prelude.{Option, Some, None, IfSome, Result, Ok, Err, OnOk, slice_index_or, get_or, if◌then◌else◌}
use Rattle.std.proofs.lemmas.Bool.Decides.{nat_tests}
use Rattle.std.proofs.lemmas.List.{get_or_read}
use Rattle.cql_value.specs.Element.{Element}
use Rattle.cql_store.specs.Held.{Held, Stubs, Advance, stub_of, Updates, fed_at, advanced}
use Rattle.cql_store.specs.declared.stub_ref.StubRef.{StubRef}
use Rattle.cql_store.specs.Stores.{OwnStores, AllStores, own_at, store_at, held_at, stub_ref_of, same_stub_ref, OwnMoves, Moves, Appends}

pub same_nat : (o p : ℕ) → eqb o p ≡ true → o ≡ p
same_nat o p h = grind (arith, nat_tests)

pub far_nat : (o p : ℕ) → eqb o p ≡ false → o ≡ p → ⊥
far_nat o p h e = absurd (cc (sym h ∙ eq-eqb o p e))

-- what stands at an index there is doesn't depend on the default
pub there : {A : Type 0} (xs : List A) (i : ℕ) (x d : A) → i < length xs → x ≡ slice_index_or xs i x → x ≡ get_or xs i d
there xs i x d lt h = get_or_read xs i x lt h d

-- one number of the stubs after one more row
stub_fed : (x : Element) (stubs : Stubs) (id : ℕ) → stub_of (map (fed_at x) stubs) id ≡ fed_at x (stub_of stubs id)
stub_fed x [] id = refl
stub_fed x (h ∷ hs) zero = refl
stub_fed x (h ∷ hs) (suc id) = stub_fed x hs id

-- ---- one owner's stores are these now

module _ (old : AllStores) (owner : ℕ) (own : OwnStores) (lt : owner < length old) where
  own_now : own_at (set old owner own) owner ≡ own
  own_now = get_or-set_same old owner own [] lt

  own_far : (o : ℕ) → eqb o owner ≡ false → own_at (set old owner own) o ≡ own_at old o
  own_far o far = get_or-set_other old owner o own [] (far_nat o owner far)

  streams_at : length own ≡ length (own_at old owner) → (o : ℕ) (b : Bool) → eqb o owner ≡ b → length (own_at (set old owner own) o) ≡ length (own_at old o)
  streams_at same o true is =
      let e = same_nat o owner is in
      ap (λ p. length (own_at (set old owner own) p)) e ∙ ap length own_now ∙ same ∙ sym (ap (λ p. length (own_at old p)) e)
  streams_at same o false is = ap length (own_far o is)

-- ---- one stub moves

module _ (old : AllStores) (owner stream stub : ℕ) (own : OwnStores) (held : Option Held) (lt : owner < length old) (m : OwnMoves (own_at old owner) own stream stub held) where
  rest_at : (o s : ℕ) (a b : Bool) → eqb o owner ≡ a → eqb s stream ≡ b → (a && b) ≡ false → store_at (set old owner own) o s ≡ store_at old o s
  rest_at o s false b is_a is_b h = ap (λ l. get_or l s []) (own_far old owner own lt o is_a)
  rest_at o s true false is_a is_b h =
      let e = same_nat o owner is_a in
      ap (λ p. store_at (set old owner own) p s) e ∙ ap (λ l. get_or l s []) (own_now old owner own lt) ∙ m.rest s is_b ∙ sym (ap (λ p. store_at old p s) e)
  rest_at o s true true is_a is_b h = absurd cc

  near : (s k : ℕ) (b c : Bool) → eqb s stream ≡ b → eqb k stub ≡ c → (true && b && c) ≡ false → stub_of (get_or own s []) k ≡ stub_of (get_or (own_at old owner) s []) k
  near s k false c is_b is_c h = ap (λ t. stub_of t k) (m.rest s is_b)
  near s k true false is_b is_c h =
      let e = same_nat s stream is_b in
      ap (λ t. stub_of (get_or own t []) k) e ∙ m.moved.others k (far_nat k stub is_c) ∙ sym (ap (λ t. stub_of (get_or (own_at old owner) t []) k) e)
  near s k true true is_b is_c h = absurd cc

  other_at : (o s k : ℕ) (a b c : Bool) → eqb o owner ≡ a → eqb s stream ≡ b → eqb k stub ≡ c → (a && b && c) ≡ false → held_at (set old owner own) (stub_ref_of o s k) ≡ held_at old (stub_ref_of o s k)
  other_at o s k false b c is_a is_b is_c h = ap (λ l. stub_of (get_or l s []) k) (own_far old owner own lt o is_a)
  other_at o s k true b c is_a is_b is_c h =
      let e = same_nat o owner is_a in
      ap (λ p. held_at (set old owner own) (stub_ref_of p s k)) e ∙ ap (λ l. stub_of (get_or l s []) k) (own_now old owner own lt) ∙ near s k b c is_b is_c h ∙ sym (ap (λ p. held_at old (stub_ref_of p s k)) e)

  same_as : (q : StubRef) → same_stub_ref q (stub_ref_of owner stream stub) ≡ false → held_at (set old owner own) q ≡ held_at old q
  unfolding same_stub_ref
  same_as q h = other_at q.owner q.stream q.stub _ _ _ refl refl refl h

  moves : Moves old (set old owner own) (stub_ref_of owner stream stub) held
  moves = record {
    shape = record { owners = length-set old owner own; streams = λ o. streams_at old owner own lt m.streams o _ refl };
    changed = ap (λ l. stub_of (get_or l stream []) stub) (own_now old owner own lt) ∙ m.moved.changed;
    others = same_as;
    updates = subst (λ l. Updates (store_at old owner stream) (get_or l stream []) stub held) (sym (own_now old owner own lt)) m.moved;
    rest = λ o s. rest_at o s _ _ refl refl;
  }

-- what was lent is what stood at the owner
was_at : (inside old : AllStores) → inside ≡ old → (index owner : ℕ) → index ≡ owner → (was : OwnStores) → owner < length old → was ≡ slice_index_or inside index was → was ≡ own_at old owner
was_at inside old is index owner same was lt at = there old owner was [] lt (at ∙ (λ i. slice_index_or (is i) (same i) was))

-- the same of what was lent
pub lent : (inside old : AllStores) → inside ≡ old → (index owner stream stub : ℕ) → index ≡ owner → (was own : OwnStores) (held : Option Held) → owner < length old → was ≡ slice_index_or inside index was → OwnMoves was own stream stub held
    → Moves old (set inside index own) (stub_ref_of owner stream stub) held
lent inside old is index owner stream stub same was own held lt at m =
    let e : was ≡ own_at old owner = was_at inside old is index owner same was lt at in
    let put : set old owner own ≡ set inside index own = sym (λ i. set (is i) (same i) own) in
    subst (λ l. Moves old l (stub_ref_of owner stream stub) held) put
    (moves old owner stream stub own held lt (subst (λ w. OwnMoves w own stream stub held) e m))

pub advance_lent : (inside old : AllStores) → inside ≡ old → (index : ℕ) (stub_ref : StubRef) → index ≡ stub_ref.owner → (ready : Advance) → ready.id ≡ stub_ref.stub → (was own : OwnStores) → stub_ref.owner < length old → was ≡ slice_index_or inside index was
    → IfSome (stub_of (get_or was stub_ref.stream []) ready.id) (λ h. OwnMoves was own stub_ref.stream ready.id (Some (advanced ready.to h)))
    → IfSome (held_at old stub_ref) (λ h. Moves old (set inside index own) stub_ref (Some (advanced ready.to h)))
advance_lent inside old is index stub_ref near ready stub was own lt at m =
    let e : was ≡ own_at old stub_ref.owner = was_at inside old is index stub_ref.owner near was lt at in
    let same : stub_of (get_or was stub_ref.stream []) ready.id ≡ held_at old stub_ref = (λ i. stub_of (get_or (e i) stub_ref.stream []) (stub i)) in
    by (held_at old stub_ref) (subst (λ o. IfSome o (λ h. OwnMoves was own stub_ref.stream ready.id (Some (advanced ready.to h)))) same m)
  where
    by : (o : Option Held) → IfSome o (λ h. OwnMoves was own stub_ref.stream ready.id (Some (advanced ready.to h))) → IfSome o (λ h. Moves old (set inside index own) stub_ref (Some (advanced ready.to h)))
    by None h = tt
    by (Some h) m = subst (λ k. Moves old (set inside index own) (stub_ref_of stub_ref.owner stub_ref.stream k) (Some (advanced ready.to h))) stub (lent inside old is index stub_ref.owner stub_ref.stream ready.id near was own (Some (advanced ready.to h)) lt at m)

-- ---- a row comes

-- the stores of an owner after one more row of a stream
fed_here : (x : Element) (was : OwnStores) (stream : ℕ) → stream < length was → (s : ℕ) (b : Bool) → eqb s stream ≡ b
    → get_or (set was stream (map (fed_at x) (get_or was stream []))) s [] ≡ (if b then map (fed_at x) (get_or was s []) else get_or was s [])
fed_here x was stream within s true is =
    let e = same_nat s stream is in
    ap (λ p. get_or (set was stream (map (fed_at x) (get_or was stream []))) p []) e
    ∙ get_or-set_same was stream (map (fed_at x) (get_or was stream [])) [] within
    ∙ sym (ap (λ p. map (fed_at x) (get_or was p [])) e)
fed_here x was stream within s false is = get_or-set_other was stream s (map (fed_at x) (get_or was stream [])) [] (far_nat s stream is)

-- a stub after one more row of its stream, or of another
held_fed : (x : Element) (old new : AllStores) (q : StubRef) (b : Bool) → store_at new q.owner q.stream ≡ (if b then map (fed_at x) (store_at old q.owner q.stream) else store_at old q.owner q.stream)
    → held_at new q ≡ (if b then fed_at x (held_at old q) else held_at old q)
held_fed x old new q true h = ap (λ t. stub_of t q.stub) h ∙ stub_fed x (store_at old q.owner q.stream) q.stub
held_fed x old new q false h = ap (λ t. stub_of t q.stub) h

module _ (x : Element) (old : AllStores) (owner stream : ℕ) (own : OwnStores) (lt : owner < length old) (within : stream < length (own_at old owner)) (made : own ≡ set (own_at old owner) stream (map (fed_at x) (store_at old owner stream))) where
  stores_at : (o s : ℕ) (a b : Bool) → eqb o owner ≡ a → eqb s stream ≡ b → store_at (set old owner own) o s ≡ (if a && b then map (fed_at x) (store_at old o s) else store_at old o s)
  stores_at o s false b is_a is_b = ap (λ l. get_or l s []) (own_far old owner own lt o is_a)
  stores_at o s true b is_a is_b =
      let e = same_nat o owner is_a in
      ap (λ p. store_at (set old owner own) p s) e
      ∙ ap (λ l. get_or l s []) (own_now old owner own lt ∙ made)
      ∙ fed_here x (own_at old owner) stream within s b is_b
      ∙ sym (ap (λ p. if b then map (fed_at x) (store_at old p s) else store_at old p s) e)

  appends : Appends old (set old owner own) owner stream x
  appends = record {
    shape =
        record {
          owners = length-set old owner own;
          streams = λ o. streams_at old owner own lt (ap length made ∙ length-set (own_at old owner) stream (map (fed_at x) (store_at old owner stream))) o _ refl;
        };
    appended = λ q. held_fed x old (set old owner own) q _ (stores_at q.owner q.stream _ _ refl refl);
    stores = λ o s. stores_at o s _ _ refl refl;
  }

-- the same of what was lent
pub append_lent : {E : Type 0} (x : Element) (inside old : AllStores) → inside ≡ old → (index owner stream : ℕ) → index ≡ owner → (was own : OwnStores) → owner < length old → stream < length (own_at old owner) → was ≡ slice_index_or inside index was
    → (r : Result Unit E) → OnOk r (own ≡ set was stream (map (fed_at x) (get_or was stream []))) → OnOk r (Appends old (set inside index own) owner stream x)
append_lent x inside old is index owner stream same was own lt within at (Err e) made = tt
append_lent x inside old is index owner stream same was own lt within at (Ok u) made =
    let e : was ≡ own_at old owner = was_at inside old is index owner same was lt at in
    let put : set old owner own ≡ set inside index own = sym (λ i. set (is i) (same i) own) in
    subst (λ l. Appends old l owner stream x) put
    (appends x old owner stream own lt within (made ∙ ap (λ w. set w stream (map (fed_at x) (get_or w stream []))) e))
