-- Each grant has its stream's index.
use Rattle.std.proofs.Common.{◌≡◌, ℕ, Bool, true, false, not, List, [], ◌∷◌, ◌++◌, set, slice_get, refl, ap, sym, subst, ◌∙◌}
use Rattle.std.specs.Prelude.{Some, Result, Ok, Err, IfSome, OnOk, OnErr, if◌then◌else◌}
use Rattle.std.specs.List.{AllByRecursion, filter}
use Rattle.cql_value.specs.declared.schema.Column.{Column}
use Rattle.cql_tenants.specs.declared.tenants.Tenant.{Tenant}
use Rattle.cql_tenants.specs.Named.{Named, index_of, change_named}
use Rattle.cql_tenants.specs.Namespace.{Namespace, Stream, Grant, nothing_made, namespace_at, is_of, without_grant}
use Rattle.cql_tenants.specs.Lookup.{opened_at}
use Rattle.cql_tenants.specs.Directory.{with_stream, with_grant}
use Rattle.cql_tenants.specs.Taking.{opens}
use Rattle.cql_tenants.specs.Law.{IsIndexed, AreIndexed}
use Rattle.cql_tenants.proofs.Kept.{grow_at}
use Rattle.cql_tenants.proofs.Indices.{index_change, index_push, clock_at}
use Rattle.cql_tenants.proofs.Grants.{no_grants}

-- ---- what holds of each

all_too : {A : Type 0} {P Q : A → Type 0} → ((x : A) → P x → Q x) → (xs : List A) → AllByRecursion P xs → AllByRecursion Q xs
all_too f [] all = tt
all_too f (x ∷ xs) all = (f x all.0, all_too f xs all.1)

all_push : {A : Type 0} (P : A → Type 0) (xs : List A) (x : A) → AllByRecursion P xs → P x → AllByRecursion P (xs ++ x ∷ [])
all_push P [] x all is = (is, tt)
all_push P (y ∷ xs) x all is = (all.0, all_push P xs x all.1 is)

all_left : {A : Type 0} (P : A → Type 0) (p : A → Bool) (xs : List A) → AllByRecursion P xs → AllByRecursion P (filter p xs)
all_left P p [] all = tt
all_left {A} P p (x ∷ xs) all = by (p x) (all_left P p xs all.1)
  where
    by : (b : Bool) → AllByRecursion P (filter p xs) → AllByRecursion P (if b then x ∷ filter p xs else filter p xs)
    by true rest = (all.0, rest)
    by false rest = rest

-- ---- indices of names stay

-- the names of one list stand in another where they stood
abbrev pub Stay : List (Named Stream) → List (Named Stream) → Type 0
Stay old new = (m : List ℕ) (p : ℕ) → index_of old m ≡ Some p → index_of new m ≡ Some p

-- ---- namespaces

abbrev AllIndexed : List Namespace → Namespace → Type 0
AllIndexed namespaces namespace = AllByRecursion (IsIndexed namespaces) namespace.granted

-- a namespace whose streams stay at their indices, in place of one
indexed_replaced : (namespaces : List Namespace) (i : ℕ) (old new : Namespace) → namespace_at namespaces i ≡ old → Stay old.streams new.streams → AllIndexed namespaces new → AreIndexed namespaces → AreIndexed (set namespaces i new)
indexed_replaced namespaces i old new is stay shown all j =
    all_too
    (λ g k. grow_at (λ namespace. index_of namespace.streams g.stream ≡ Some g.index) (λ namespace. index_of namespace.streams g.stream ≡ Some g.index) namespaces i new
    (λ h. stay g.stream g.index (sym (ap (λ namespace. index_of namespace.streams g.stream) is) ∙ h)) (λ namespace h. h) g.owner k)
    (namespace_at (set namespaces i new) j).granted (grow_at (AllIndexed namespaces) (AllIndexed namespaces) namespaces i new (λ h. shown) (λ namespace h. h) j (all j))

-- after a change of a namespace's streams
pub streams_indexed : (namespaces : List Namespace) (i : ℕ) (old new : Namespace) → namespace_at namespaces i ≡ old → new.granted ≡ old.granted → Stay old.streams new.streams → AreIndexed namespaces → AreIndexed (set namespaces i new)
streams_indexed namespaces i old new is same stay all =
    indexed_replaced namespaces i old new is stay (subst (AllByRecursion (IsIndexed namespaces)) (ap (λ namespace. namespace.granted) is ∙ sym same) (all i)) all

-- after one more grant to a namespace
pub grant_indexed : (namespaces : List Namespace) (i : ℕ) (old : Namespace) (new : Grant) → namespace_at namespaces i ≡ old → IsIndexed namespaces new → AreIndexed namespaces → AreIndexed (set namespaces i (with_grant new old))
grant_indexed namespaces i old new is there all =
    indexed_replaced namespaces i old (with_grant new old) is (λ m p h. h) (all_push (IsIndexed namespaces) old.granted new (subst (AllIndexed namespaces) is (all i)) there) all

-- after a grant is taken from a namespace
pub taken_indexed : (namespaces : List Namespace) (i : ℕ) (old : Namespace) (owner : ℕ) (stream : List ℕ) → namespace_at namespaces i ≡ old → AreIndexed namespaces → AreIndexed (set namespaces i (without_grant owner stream old))
taken_indexed namespaces i old owner stream is all =
    indexed_replaced namespaces i old (without_grant owner stream old) is (λ m p h. h)
    (all_left (IsIndexed namespaces) (λ grant. not (is_of owner stream grant)) old.granted (subst (AllIndexed namespaces) is (all i))) all

-- after a change of a stream's time, where it is accepted
pub time_indexed : {E : Type 0} (told : Result (Unit {0}) E) (old new : List (Named Stream)) (name : List ℕ) (at : ℕ) → OnOk told (new ≡ change_named (opens at) name old) → OnErr told (new ≡ old) → Stay old new
time_indexed (Ok u) old new name at ok err m p h = ap (λ l. index_of l m) ok ∙ index_change (opens at) old name m ∙ h
time_indexed (Err e) old new name at ok err m p h = ap (λ l. index_of l m) err ∙ h

-- after a stream is made, where there is memory
pub made_indexed : {F : Type 0} (told : Result (Unit {0}) F) (namespaces : List Namespace) (i : ℕ) (old new : Namespace) (name : List ℕ) (schema : List Column) → namespace_at namespaces i ≡ old
    → OnOk told (new ≡ with_stream name schema old) → OnErr told (new ≡ old) → AreIndexed namespaces → AreIndexed (set namespaces i new)
made_indexed (Ok u) namespaces i old new name schema is ok err all =
    subst (λ namespace. AreIndexed (set namespaces i namespace)) (sym ok) (streams_indexed namespaces i old (with_stream name schema old) is refl (λ m p h. index_push old.streams _ m p h) all)
made_indexed (Err e) namespaces i old new name schema is ok err all = subst (λ namespace. AreIndexed (set namespaces i namespace)) (sym err) (streams_indexed namespaces i old old is refl (λ m p h. h) all)

-- before the first grant
pub none_indexed : (table : List Tenant) → AreIndexed (nothing_made table)
none_indexed table index = subst (AllByRecursion (IsIndexed (nothing_made table))) (sym (no_grants table index)) tt

-- the time at a grant's index is that of its stream
pub time_there : (namespaces : List Namespace) (g : Grant) (n : ℕ) → IsIndexed namespaces g → IfSome (slice_get (namespace_at namespaces g.owner).streams g.index) (λ s. n ≡ s.item.clock) → n ≡ opened_at namespaces g.owner g.stream
time_there namespaces g n is told = clock_at (namespace_at namespaces g.owner).streams g.stream g.index n is told
