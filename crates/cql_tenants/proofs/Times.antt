-- The time of a stream that is found.
use Rattle.std.proofs.Common.{◌≡◌, ℕ, Bool, true, false, eqb, List, refl, ap, sym, ◌∙◌, arith}
use Rattle.std.specs.Prelude.{Option, Some, None, IfSome, option_map, unwrap_or, if◌then◌else◌}
use Rattle.std.proofs.lemmas.Bool.{and_parts}
use Rattle.std.proofs.lemmas.Bool.Decides.{nat_tests}
use Rattle.cql_tenants.specs.Named.{same_name}
use Rattle.cql_tenants.specs.Namespace.{Namespace, Stream, Grant, has_tenant, namespace_at, stream_at, is_of, grant_of}
use Rattle.cql_tenants.specs.Lookup.{opened_at, owner_meant, own_found, granted_found, found_of, found}
use Rattle.cql_tenants.specs.Readable.{StreamView}
use Rattle.cql_tenants.proofs.Indices.{name_eq}
use Rattle.cql_tenants.proofs.Grants.{find_passes}

abbrev own_seen : ℕ → Stream → StreamView
own_seen user s = record { owner = user; schema = s.schema; named = false; opened = s.clock }

abbrev granted_seen : List Namespace → Grant → StreamView
granted_seen namespaces g = record { owner = g.owner; schema = g.schema; named = g.named; opened = opened_at namespaces g.owner g.stream }

own_time : (namespaces : List Namespace) (user : ℕ) (name : List ℕ) (s : StreamView) → own_found namespaces user name ≡ Some s → s.opened ≡ opened_at namespaces user name
own_time namespaces user name s h = by (stream_at namespaces user name) h
  where
    by : (o : Option Stream) → option_map (own_seen user) o ≡ Some s → s.opened ≡ unwrap_or (option_map (λ t. t.clock) o) 0
    by None e = absurd cc
    by (Some t) e = let same : own_seen user t ≡ s = cc in sym (ap (λ x. x.opened) same)

granted_time : (namespaces : List Namespace) (user owner : ℕ) (name : List ℕ) (s : StreamView) → granted_found namespaces user owner name ≡ Some s → s.opened ≡ opened_at namespaces owner name
granted_time namespaces user owner name s h = by (grant_of (namespace_at namespaces user) owner name) refl h
  where
    by : (o : Option Grant) → grant_of (namespace_at namespaces user) owner name ≡ o → option_map (granted_seen namespaces) o ≡ Some s → s.opened ≡ opened_at namespaces owner name
    by None is e = absurd cc
    by (Some g) is e =
        let same : granted_seen namespaces g ≡ s = cc in
        let of = and_parts (eqb owner g.owner) (same_name name g.stream) (find_passes (is_of owner name) (namespace_at namespaces user).granted g is) in
        let index : owner ≡ g.owner = grind (arith, nat_tests, of.0) in
        let named = name_eq name g.stream of.1 in
        sym (ap (λ x. x.opened) same) ∙ (λ i. opened_at namespaces (sym index i) (sym named i))

-- what is found under a name of an owner has the time of that owner's stream
time_of_found : (namespaces : List Namespace) (user : ℕ) (owner : Option ℕ) (name : List ℕ) (s : StreamView) (n : ℕ) → found_of namespaces user owner name ≡ Some s → IfSome owner (λ o. n ≡ opened_at namespaces o name) → n ≡ s.opened
time_of_found namespaces user None name s n h told = absurd cc
time_of_found namespaces user (Some owner) name s n h told = by (eqb owner user) refl h
  where
    by : (b : Bool) → eqb owner user ≡ b → (if b then own_found namespaces user name else granted_found namespaces user owner name) ≡ Some s → n ≡ s.opened
    by true is e =
        let index : owner ≡ user = grind (arith, nat_tests, is) in
        told ∙ ap (λ o. opened_at namespaces o name) index ∙ sym (own_time namespaces user name s e)
    by false is e = told ∙ sym (granted_time namespaces user owner name s e)

pub time_found : (namespaces : List Namespace) (user : ℕ) (owner : Option (List ℕ)) (name : List ℕ) (n : ℕ) → IfSome (owner_meant namespaces user owner) (λ o. n ≡ opened_at namespaces o name) → IfSome (found namespaces user owner name) (λ s. n ≡ s.opened)
time_found namespaces user owner name n told = by (has_tenant namespaces user)
  where
    each : (r : Option StreamView) → found_of namespaces user (owner_meant namespaces user owner) name ≡ r → IfSome r (λ s. n ≡ s.opened)
    each None is = tt
    each (Some s) is = time_of_found namespaces user (owner_meant namespaces user owner) name s n is told

    by : (b : Bool) → IfSome (if b then found_of namespaces user (owner_meant namespaces user owner) name else None) (λ s. n ≡ s.opened)
    by true = each (found_of namespaces user (owner_meant namespaces user owner) name) refl
    by false = tt
