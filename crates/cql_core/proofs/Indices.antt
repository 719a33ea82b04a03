-- Indices of names.
use Rattle.std.proofs.Common.{◌≡◌, ℕ, zero, suc, Bool, true, false, eqb, List, [], ◌∷◌, ◌++◌, refl, ap, sym, ◌∙◌, arith}
use Rattle.std.specs.Prelude.{Option, None, Some, option_map, slice_get, if◌then◌else◌}
use Rattle.std.proofs.lemmas.Bool.Decides.{nat_tests}
use Rattle.cql_tenants.specs.Named.{Named, same_name, change_named, index_of}
use Rattle.cql_tenants.proofs.Indices.{at_index}

-- two names at one index are the same
pub one_name : {A : Type 0} (xs : List (Named A)) (n m : List ℕ) (i : ℕ) → index_of xs n ≡ Some i → index_of xs m ≡ Some i → n ≡ m
one_name xs n m i h k =
    let a = at_index xs n i h in
    let b = at_index xs m i k in
    let same : a.thing ≡ b.thing = cc (sym a.is ∙ b.is) in
    sym a.named ∙ ap (λ t. t.name) same ∙ b.named

suc_eqb : (j i : ℕ) (b : Bool) → eqb j i ≡ b → eqb (suc j) (suc i) ≡ b
suc_eqb j i true h = grind (arith, nat_tests, h)
suc_eqb j i false h = grind (arith, nat_tests, h)

suc_first : (j : ℕ) → eqb (suc j) 0 ≡ false
suc_first j = grind (arith, nat_tests)

first_suc : (j : ℕ) → eqb 0 (suc j) ≡ false
first_suc j = grind (arith, nat_tests)

-- what stands at each index after a change
pub get_change : {A : Type 0} (f : A → A) (xs : List (Named A)) (n : List ℕ) (i j : ℕ) (s : Named A) → index_of xs n ≡ Some i → slice_get (change_named f n xs) j ≡ Some s
    → (old : Named A) × (slice_get xs j ≡ Some old) × (s ≡ (if eqb j i then record old { item = f old.item } else old))
get_change f [] n i j s h k = absurd cc
get_change {A} f (x ∷ xs) n i j s h k = by (λ i j h k. get_change f xs n i j s h k) (same_name n x.name) h j k
  where
    first : (i j : ℕ) → Some 0 ≡ Some i → slice_get (record x { item = f x.item } ∷ xs) j ≡ Some s → (old : Named A) × (slice_get (x ∷ xs) j ≡ Some old) × (s ≡ (if eqb j i then record old { item = f old.item } else old))
    first zero zero e k = (x, refl, cc k)
    first zero (suc j) e k = (s, k, sym (λ m. if suc_first j m then record s { item = f s.item } else s))
    first (suc i) j e k = absurd cc

    later : ((i j : ℕ) → index_of xs n ≡ Some i → slice_get (change_named f n xs) j ≡ Some s → (old : Named A) × (slice_get xs j ≡ Some old)
        × (s ≡ (if eqb j i then record old { item = f old.item } else old))) → (p : Option ℕ) (i j : ℕ) → option_map suc p ≡ Some i → index_of xs n ≡ p
        → slice_get (x ∷ change_named f n xs) j ≡ Some s → (old : Named A) × (slice_get (x ∷ xs) j ≡ Some old)
        × (s ≡ (if eqb j i then record old { item = f old.item } else old))
    later rest None i j e q k = absurd cc
    later rest (Some p) zero j e q k = absurd cc
    later rest (Some p) (suc i) zero e q k = (x, refl, cc k ∙ sym (λ m. if first_suc i m then record x { item = f x.item } else x))
    later rest (Some p) (suc i) (suc j) e q k =
        let same : p ≡ i = cc in
        let r = rest i j (q ∙ ap (λ m. Some m) same) k in
        (r.0, r.1, r.2 ∙ (λ m. if sym (suc_eqb j i (eqb j i) refl) m then record r.0 { item = f r.0.item } else r.0))

    by : ((i j : ℕ) → index_of xs n ≡ Some i → slice_get (change_named f n xs) j ≡ Some s → (old : Named A) × (slice_get xs j ≡ Some old)
        × (s ≡ (if eqb j i then record old { item = f old.item } else old))) → (b : Bool) → (if b then Some 0 else option_map suc (index_of xs n)) ≡ Some i → (j : ℕ)
        → slice_get (if b then record x { item = f x.item } ∷ xs else x ∷ change_named f n xs) j ≡ Some s
        → (old : Named A) × (slice_get (x ∷ xs) j ≡ Some old) × (s ≡ (if eqb j i then record old { item = f old.item } else old))
    by rest true e j k = first i j e k
    by rest false e j k = later rest (index_of xs n) i j e refl k
