-- One tenant's queries among all, and one of them under its name.
use Rattle.std.proofs.Common.{◌≡◌, ℕ, zero, suc, ◌<◌, Bool, true, false, List, [], ◌∷◌, ◌++◌, length, set, refl, ap, subst, sym, ◌∙◌, arith}
use Rattle.std.specs.Prelude.{Option, Some, None, is_some, is_none, option_map, if◌then◌else◌}
use Rattle.std.proofs.lemmas.Bool.Decides.{nat_tests}
use Rattle.std.proofs.lemmas.Option.{slice_get_within}
use Rattle.cql_plan.specs.declared.plan.Input.{Input}
use Rattle.cql_plan.specs.Ports.{ports}
use Rattle.cql_value.specs.declared.schema.ColumnType.{ColumnType}
use Rattle.cql_tenants.specs.declared.namespace.Namespace.{Namespace}
use Rattle.cql_tenants.specs.declared.stream.Stream.{Stream}
use Rattle.cql_tenants.specs.Named.{Named, same_name, find_named, remove_named, each}
use Rattle.cql_tenants.specs.Namespace.{namespace_at, has_tenant}
use Rattle.cql_core.specs.Machine.{queries_at, is_revoked}
use Rattle.cql_store.specs.declared.stub_ref.StubRef.{StubRef}
use Rattle.cql_store.specs.Stores.{AllStores, held_at, IsStream, IsShaped}
use Rattle.cql_core.specs.declared.query_state.QueryState.{QueryState}
use Rattle.cql_core.specs.Model.{Holding, stub_models, live_model, query_model, queries_model}
use Rattle.cql_core.specs.Sound.{states_at, stands_at, nth_stream, AreLinks, IsLinked, AreLinked, AllLinked, IsBeside}
use Rattle.cql_core.specs.Attached.{AreStreams}
use Rattle.cql_core.proofs.Look.{find_each, length_each}

pub in_table : (namespaces : List Namespace) (user : ℕ) → has_tenant namespaces user ≡ true → user < length namespaces
in_table namespaces user h = grind (arith, nat_tests)

-- one tenant's queries, seen
pub model_set : (held : Holding) (queries : List (List (Named QueryState))) (t : ℕ) (qs : List (Named QueryState)) → queries_model held (set queries t qs) ≡ set (queries_model held queries) t (each (query_model held) qs)
model_set held [] t qs = refl
model_set held (x ∷ rest) zero qs = refl
model_set held (x ∷ rest) (suc t) qs = ap (λ l. each (query_model held) x ∷ l) (model_set held rest t qs)

pub model_at : (held : Holding) (queries : List (List (Named QueryState))) (t : ℕ) → queries_at (queries_model held queries) t ≡ each (query_model held) (states_at queries t)
model_at held [] t = refl
model_at held (x ∷ rest) zero = refl
model_at held (x ∷ rest) (suc t) = model_at held rest t

-- a query that isn't revoked has its stubs, and one that is has none
pub model_is : (held : Holding) (q : QueryState) → q.revoked ≡ false → query_model held q ≡ live_model held q
model_is held q live = λ k. record (live_model held q) { stubs = (if live k then None else Some (stub_models held q.plan.inputs q.stub_refs)) }

pub model_gone : (held : Holding) (q : QueryState) → q.revoked ≡ true → is_revoked (query_model held q) ≡ true
model_gone held q gone = λ k. is_none (if gone k then None else Some (stub_models held q.plan.inputs q.stub_refs))

-- a query by its name, seen
pub found_model : (held : Holding) (queries : List (List (Named QueryState))) (user : ℕ) (name : List ℕ)
    → find_named (queries_at (queries_model held queries) user) name ≡ option_map (query_model held) (find_named (states_at queries user) name)
found_model held queries user name = ap (λ qs. find_named qs name) (model_at held queries user) ∙ find_each (query_model held) (states_at queries user) name

-- whether there is a query of the name
pub asked : (held : Holding) (queries : List (List (Named QueryState))) (user : ℕ) (name : List ℕ)
    → is_some (find_named (queries_at (queries_model held queries) user) name) ≡ is_some (find_named (states_at queries user) name)
asked held queries user name = ap is_some (found_model held queries user name) ∙ by (find_named (states_at queries user) name)
  where
    by : (o : Option QueryState) → is_some (option_map (query_model held) o) ≡ is_some o
    by None = refl
    by (Some r) = refl

-- as many as there are
pub counted_model : (held : Holding) (queries : List (List (Named QueryState))) (user : ℕ) → length (queries_at (queries_model held queries) user) ≡ length (states_at queries user)
counted_model held queries user = ap length (model_at held queries user) ∙ length_each (query_model held) (states_at queries user)

-- the links of one tenant's queries
pub linked_at : (namespaces : List Namespace) (held : Holding) (queries : List (List (Named QueryState))) (t : ℕ) → AllLinked namespaces held queries → AreLinked namespaces held (states_at queries t)
linked_at namespaces held [] t h = tt
linked_at namespaces held (x ∷ rest) zero h = h.0
linked_at namespaces held (x ∷ rest) (suc t) h = linked_at namespaces held rest t h.1

pub linked_set : (namespaces : List Namespace) (held : Holding) (queries : List (List (Named QueryState))) (t : ℕ) (qs : List (Named QueryState))
    → AllLinked namespaces held queries → AreLinked namespaces held qs → AllLinked namespaces held (set queries t qs)
linked_set namespaces held [] t qs h k = h
linked_set namespaces held (x ∷ rest) zero qs h k = (k, h.1)
linked_set namespaces held (x ∷ rest) (suc t) qs h k = (h.0, linked_set namespaces held rest t qs h.1 k)

pub linked_removed : (namespaces : List Namespace) (held : Holding) (qs : List (Named QueryState)) (n : List ℕ) → AreLinked namespaces held qs → AreLinked namespaces held (remove_named qs n)
linked_removed namespaces held [] n h = h
linked_removed namespaces held (q ∷ qs) n h = by (linked_removed namespaces held qs n h.1) (same_name n q.name)
  where
    by : AreLinked namespaces held (remove_named qs n) → (b : Bool) → AreLinked namespaces held (if b then qs else q ∷ remove_named qs n)
    by rest true = h.1
    by rest false = (h.0, rest)

pub linked_push : (namespaces : List Namespace) (held : Holding) (qs : List (Named QueryState)) (q : Named QueryState) → AreLinked namespaces held qs
    → IsLinked namespaces held q.item → AreLinked namespaces held (qs ++ q ∷ [])
linked_push namespaces held [] q h l = (l, tt)
linked_push namespaces held (x ∷ qs) q h l = (h.0, linked_push namespaces held qs q h.1 l)

-- the links of a query that is found
pub linked_found : (namespaces : List Namespace) (held : Holding) (qs : List (Named QueryState)) (n : List ℕ) (q : QueryState) → find_named qs n ≡ Some q → AreLinked namespaces held qs → IsLinked namespaces held q
linked_found namespaces held [] n q e h = absurd cc
linked_found namespaces held (x ∷ qs) n q e h = by (λ e. linked_found namespaces held qs n q e h.1) (same_name n x.name) e
  where
    by : (find_named qs n ≡ Some q → IsLinked namespaces held q) → (b : Bool) → (if b then Some x.item else find_named qs n) ≡ Some q → IsLinked namespaces held q
    by rest true e = let same : x.item ≡ q = cc in subst (λ (r : QueryState). IsLinked namespaces held r) same h.0
    by rest false e = rest e

-- an owner of a stream is in the table
pub nth_owner : (namespaces : List Namespace) (o i : ℕ) (s : Named Stream) → nth_stream namespaces o i ≡ Some s → o < length namespaces
nth_owner [] o i s h = absurd cc
nth_owner (x ∷ namespaces) zero i s h = omega arith
nth_owner (x ∷ namespaces) (suc o) i s h = let e = nth_owner namespaces o i s h in omega (arith, e)

-- a stream at its index has a store
pub stream_there : (namespaces : List Namespace) (stores : AllStores) → IsBeside namespaces stores → (o i : ℕ) (s : Named Stream) → nth_stream namespaces o i ≡ Some s → IsStream stores o i
stream_there namespaces stores beside o i s h =
    let lt = nth_owner namespaces o i s h in
    let w = slice_get_within (namespace_at namespaces o).streams i s h in
    let m = beside.streams o in
    record { owned = omega (arith, lt, beside.owners); within = omega (arith, w, m) }

pub beside_then : (namespaces : List Namespace) (old new : AllStores) → IsShaped old new → IsBeside namespaces old → IsBeside namespaces new
beside_then namespaces old new shape b = record { owners = shape.owners ∙ b.owners; streams = λ o. shape.streams o ∙ b.streams o }

-- linked stubs stand on streams that are there
pub links_streams : (namespaces : List Namespace) (stores : AllStores) (held : Holding) → IsBeside namespaces stores
    → (c : ℕ) (is : List Input) (ts : List (List ColumnType)) (ps : List StubRef) → AreLinks namespaces held c is ts ps → AreStreams stores ps
links_streams namespaces stores held beside c [] [] [] h = tt
links_streams namespaces stores held beside c [] [] (p ∷ ps) h = absurd h
links_streams namespaces stores held beside c [] (t ∷ ts) ps h = absurd h
links_streams namespaces stores held beside c (i ∷ is) [] ps h = absurd h
links_streams namespaces stores held beside c (i ∷ is) (t ∷ ts) [] h = absurd h
links_streams namespaces stores held beside c (i ∷ is) (t ∷ ts) (p ∷ ps) h = (stream_there namespaces stores beside p.owner p.stream h.0.stream h.0.there, links_streams namespaces stores held beside c is ts ps h.1)

-- so do those of a query, of which one that is revoked has none
pub query_streams : (namespaces : List Namespace) (stores : AllStores) → IsBeside namespaces stores → (q : QueryState) → IsLinked namespaces (held_at stores) q → AreStreams stores (stands_at q)
query_streams namespaces stores beside q linked = by q.revoked refl
  where
    by : (b : Bool) → q.revoked ≡ b → AreStreams stores (stands_at q)
    by true gone = subst (λ b. AreStreams stores (if b then [] else q.stub_refs)) (sym gone) tt
    by false live = subst (λ b. AreStreams stores (if b then [] else q.stub_refs)) (sym live)
        (links_streams namespaces stores (held_at stores) beside q.cursor q.plan.inputs (ports q.plan) q.stub_refs (linked.links live))
