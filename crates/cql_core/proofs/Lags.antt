-- The greatest of what is found under each name.
use Rattle.std.proofs.Common.{◌≡◌, ◌≤◌, ◌<◌, ◌+◌, ◌⊎◌, inl, inr, ℕ, suc, List, length, refl, sym, ap, subst, ◌∙◌, arith}
use Rattle.std.specs.Prelude.{Option, None, Some, IfSome, unwrap_or, slice_get, max}
use Rattle.std.proofs.Math.Nat.{eq-or-lt_of_le}
use Rattle.std.proofs.lemmas.Bool.{cases_lt}
use Rattle.std.proofs.lemmas.Option.{slice_get_within}
use Rattle.cql_tenants.specs.Named.{Named, find_named, index_of}
use Rattle.cql_tenants.proofs.Indices.{at_index, no_index}

-- of the first names nothing greater is found
abbrev pub AreUpTo : {A : Type 0} → (List ℕ → Option ℕ) → List (Named A) → ℕ → ℕ → Type 0
AreUpTo {A} found items n most = (i : ℕ) (q : Named A) → i < n → slice_get items i ≡ Some q → IfSome (found q.name) (λ t. t ≤ most)

-- and the greatest is found, unless it is 0
abbrev pub IsFound : (List ℕ → Option ℕ) → ℕ → Type 0
IsFound found most = 0 < most → (name : List ℕ) × (found name ≡ Some most)

wider : (o : Option ℕ) (a b : ℕ) → a ≤ b → IfSome o (λ t. t ≤ a) → IfSome o (λ t. t ≤ b)
wider None a b le h = tt
wider (Some t) a b le h = omega (arith, le, h)

itself : (o : Option ℕ) (most : ℕ) → IfSome o (λ t. t ≤ max most (unwrap_or o 0))
itself None most = tt
itself (Some t) most = omega arith

pub up_to_none : {A : Type 0} (found : List ℕ → Option ℕ) (items : List (Named A)) → AreUpTo found items 0 0
up_to_none found items i q less is = absurd (omega (arith, less))

pub up_to_more : {A : Type 0} (found : List ℕ → Option ℕ) (items : List (Named A)) (n most : ℕ) (q : Named A) → AreUpTo found items n most → slice_get items n ≡ Some q
    → AreUpTo found items (n + 1) (max most (unwrap_or (found q.name) 0))
up_to_more {A} found items n most q before at i p less is = by (eq-or-lt_of_le (omega (arith, less)))
  where
    by : (i ≡ n) ⊎ (i < n) → IfSome (found p.name) (λ t. t ≤ max most (unwrap_or (found q.name) 0))
    by (inl same) =
        let one : q ≡ p = cc (sym at ∙ ap (slice_get items) (sym same) ∙ is) in
        subst (λ (r : Named A). IfSome (found r.name) (λ t. t ≤ max most (unwrap_or (found q.name) 0))) one (itself (found q.name) most)
    by (inr earlier) = wider (found p.name) most (max most (unwrap_or (found q.name) 0)) (omega arith) (before i p earlier is)

pub found_more : (found : List ℕ → Option ℕ) (name : List ℕ) (most : ℕ) → IsFound found most → IsFound found (max most (unwrap_or (found name) 0))
found_more found name most before = by (found name) refl
  where
    either : (t : ℕ) → found name ≡ Some t → (max most t ≡ most) ⊎ (max most t ≡ t) → IsFound found (max most t)
    either t is (inl same) = subst (IsFound found) (sym same) before
    either t is (inr same) = λ less. (name, is ∙ ap (λ n. Some n) (sym same))

    one_of : (a b : ℕ) → (a < b) ⊎ (b ≤ a) → (max a b ≡ a) ⊎ (max a b ≡ b)
    one_of a b (inl less) = inr (omega (arith, less))
    one_of a b (inr more) = inl (omega (arith, more))

    by : (o : Option ℕ) → found name ≡ o → IsFound found (max most (unwrap_or o 0))
    by None is = subst (IsFound found) (omega arith) before
    by (Some t) is = either t is (one_of most t (cases_lt most t))

-- of no name more is found, where nothing is found of what isn't there
pub up_to_all : {A : Type 0} (found : List ℕ → Option ℕ) (items : List (Named A)) (most : ℕ) → AreUpTo found items (length items) most
    → ((name : List ℕ) → find_named items name ≡ None → found name ≡ None) → (name : List ℕ) → IfSome (found name) (λ t. t ≤ most)
up_to_all found items most all lost name = by (index_of items name) refl
  where
    by : (o : Option ℕ) → index_of items name ≡ o → IfSome (found name) (λ t. t ≤ most)
    by None is = subst (λ o. IfSome o (λ t. t ≤ most)) (sym (lost name (no_index items name is))) tt
    by (Some i) is =
        let it = at_index items name i is in
        subst (λ n. IfSome (found n) (λ t. t ≤ most)) it.named (all i it.thing (slice_get_within items i it.thing it.is) it.is)
