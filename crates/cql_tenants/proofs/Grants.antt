-- Each grant is of a stream that is there.
use Rattle.std.proofs.Common.{◌≡◌, ◌<◌, ℕ, zero, suc, Bool, true, false, ◌&&◌, not, eqb, List, [], ◌∷◌, length, set, refl, ap, subst, ◌∙◌, sym, arith}
use Rattle.std.specs.Prelude.{Option, Some, None, option_map, is_none, Result, Ok, Err, OnOk, OnErr, unwrap_or, if◌then◌else◌}
use Rattle.std.specs.Option.{option_or}
use Rattle.std.specs.List.{AllByRecursion, find, filter}
use Rattle.std.proofs.lemmas.Bool.Decides.{nat_tests}
use Rattle.std.proofs.lemmas.List.Folds.{find-append}
use Rattle.std.proofs.lemmas.Bool.{and_parts}
use Rattle.cql_value.specs.declared.schema.Column.{Column}
use Rattle.cql_tenants.specs.declared.tenants.Tenant.{Tenant}
use Rattle.cql_tenants.specs.declared.stream_refusal.StreamRefusal.{StreamRefusal}
use Rattle.cql_tenants.specs.declared.stream_refusal.StreamRefusal.TheVariants.{UnknownTenant, SelfGrant, AlreadyGranted, BadGrantColumns}
use Rattle.cql_tenants.specs.Named.{Named, same_name, find_named, change_named, index_of}
use Rattle.cql_window.specs.Projection.{projected}
use Rattle.cql_window.specs.Chosen.{is_shown}
use Rattle.cql_tenants.specs.Namespace.{Namespace, Stream, Grant, nothing_made, has_tenant, namespace_at, tenant_named, stream_at, is_of, grant_of, has_grant, without_grant}
use Rattle.cql_tenants.specs.Checks.{grantee_refused, grant_refused}
use Rattle.cql_tenants.specs.Directory.{StreamCommand, Make, Share, Revoke, Put, Beat, with_stream, with_time, with_grant, grant_over, grant_to, new_grant, revoke_from, refused, done, streams_after}
use Rattle.cql_tenants.specs.Taking.{opens}
use Rattle.cql_tenants.specs.Law.{IsGrantOf, AreOfStreams, IsGrantLaw, directory_from}
use Rattle.cql_window.proofs.Choices.{shown_within}
use Rattle.cql_tenants.proofs.Kept.{Has, still, grow_at, streams_stay, timed, made}
use Rattle.cql_tenants.proofs.Indices.{name_eq, name_same}

-- the stream of a grant is there, and the grant shows its columns
abbrev pub Shown : List Namespace → ℕ → List ℕ → Grant → Type 0
Shown namespaces owner name g = (s : Stream) × (stream_at namespaces owner name ≡ Some s) × IsGrantOf g s

-- a grant of a stream is one of each with its columns
of_same : (g : Grant) (s now : Stream) → now.schema ≡ s.schema → IsGrantOf g s → IsGrantOf g now
of_same g s now same is = record {
  within = subst (λ l. AllByRecursion (λ column. column < length l) g.projection) (sym same) is.within;
  schema = is.schema ∙ ap (λ l. projected l g.projection) (sym same);
}

abbrev AreShown : List Namespace → Namespace → Type 0
AreShown namespaces namespace = (owner : ℕ) (name : List ℕ) (g : Grant) → grant_of namespace owner name ≡ Some g → Shown namespaces owner name g

find_one : {A : Type 0} (p : A → Bool) (x g : A) → find p (x ∷ []) ≡ Some g → (p x ≡ true) × (x ≡ g)
find_one p x g h = by (p x) refl
  where
    by : (b : Bool) → p x ≡ b → (p x ≡ true) × (x ≡ g)
    by true is = (is, grind (arith, is, h))
    by false is = absurd (grind (arith, is, h))

-- a grant of what may be shown
pub granted_new : (namespaces : List Namespace) (user index : ℕ) (stream : List ℕ) (schema : List Column) (columns : Option (List (List ℕ))) → option_map (λ s. s.schema) (stream_at namespaces user stream) ≡ Some schema
    → is_shown schema columns ≡ true → Shown namespaces user stream (grant_over user index stream schema columns)
granted_new namespaces user index stream schema columns there shown = by (stream_at namespaces user stream) refl there
  where
    by : (o : Option Stream) → stream_at namespaces user stream ≡ o → option_map (λ s. s.schema) o ≡ Some schema → Shown namespaces user stream (grant_over user index stream schema columns)
    by None is h = absurd cc
    by (Some s) is h =
        let same : s.schema ≡ schema = cc in
        (s, is, of_same (grant_over user index stream schema columns) (record { schema = schema; clock = 0 }) s same (record { within = shown_within schema columns shown; schema = refl }))

-- an accepted grant is of a stream of the tenant's own
granted_own : (namespaces : List Namespace) (user : ℕ) (stream to : List ℕ) (columns : Option (List (List ℕ))) → refused namespaces user (Share stream to columns) ≡ None → Shown namespaces user stream (new_grant namespaces user stream columns)
granted_own namespaces user stream to columns h = by (has_tenant namespaces user) (stream_at namespaces user stream) refl h
  where
    shown : (s : Stream) (o : Option ℕ) → grantee_refused user s.schema columns (has_grant namespaces user stream) o ≡ None → is_shown s.schema columns ≡ true
    shown s None h = absurd cc
    shown s (Some index) h = test (eqb index user) (is_shown s.schema columns) h
      where
        test : (self fine : Bool) → (if self then Some SelfGrant else if fine then (if has_grant namespaces user stream index then Some AlreadyGranted else None) else Some BadGrantColumns) ≡ None → fine ≡ true
        test true fine h = absurd cc
        test false true h = refl
        test false false h = absurd cc

    by : (b : Bool) (o : Option Stream) → stream_at namespaces user stream ≡ o → (if b then grant_refused user o columns (has_grant namespaces user stream) (tenant_named namespaces user to) else Some UnknownTenant) ≡ None → Shown namespaces user stream (new_grant namespaces user stream columns)
    by false o is h = absurd cc
    by true None is h = absurd cc
    by true (Some s) is h =
        subst (λ (o : Option Stream). Shown namespaces user stream (grant_over user (unwrap_or (index_of (namespace_at namespaces user).streams stream) 0) stream (unwrap_or (option_map (λ s. s.schema) o) []) columns)) (sym is)
        (granted_new namespaces user (unwrap_or (index_of (namespace_at namespaces user).streams stream) 0) stream s.schema columns (ap (option_map (λ s. s.schema)) is) (shown s (tenant_named namespaces user to) h))

-- WITHOUT A GRANT
-- no grant of the stream is left
none_left : (o : ℕ) (s : List ℕ) (xs : List Grant) → find (is_of o s) (filter (λ g. not (is_of o s g)) xs) ≡ None
none_left o s [] = refl
none_left o s (x ∷ xs) = by (none_left o s xs) (is_of o s x) refl
  where
    by : find (is_of o s) (filter (λ g. not (is_of o s g)) xs) ≡ None → (r : Bool) → is_of o s x ≡ r → find (is_of o s) (if not r then x ∷ filter (λ g. not (is_of o s g)) xs else filter (λ g. not (is_of o s g)) xs) ≡ None
    by rest true is = rest
    by rest false is = (λ i. if is i then Some x else find (is_of o s) (filter (λ g. not (is_of o s g)) xs)) ∙ rest

-- those of other streams stay
others_left : (o owner : ℕ) (s name : List ℕ) (xs : List Grant) → (eqb owner o && same_name name s) ≡ false → find (is_of owner name) (filter (λ g. not (is_of o s g)) xs) ≡ find (is_of owner name) xs
others_left o owner s name [] other = refl
others_left o owner s name (x ∷ xs) other = by (others_left o owner s name xs other) (is_of o s x) (is_of owner name x) refl refl
  where
    by : find (is_of owner name) (filter (λ g. not (is_of o s g)) xs) ≡ find (is_of owner name) xs → (r p : Bool) → is_of o s x ≡ r → is_of owner name x ≡ p
        → find (is_of owner name) (if not r then x ∷ filter (λ g. not (is_of o s g)) xs else filter (λ g. not (is_of o s g)) xs) ≡ (if p then Some x else find (is_of owner name) xs)
    by rest false p er ep = (λ i. if ep i then Some x else rest i)
    by rest true false er ep = rest
    by rest true true er ep =
        let a = and_parts (eqb o x.owner) (same_name s x.stream) er in
        let b = and_parts (eqb owner x.owner) (same_name name x.stream) ep in
        let index : eqb owner o ≡ true = grind (arith, nat_tests, a.0, b.0) in
        let same : same_name name s ≡ true = name_same name s (name_eq name x.stream b.1 ∙ sym (name_eq s x.stream a.1)) in
        absurd (let e : true ≡ false = (λ i. sym index i && sym same i) ∙ other in cc)

-- what is found without the grants of a stream
pub left : (o owner : ℕ) (s name : List ℕ) (namespace : Namespace) → grant_of (without_grant o s namespace) owner name ≡ (if eqb owner o && same_name name s then None else grant_of namespace owner name)
left o owner s name namespace = by (eqb owner o && same_name name s) refl
  where
    by : (b : Bool) → (eqb owner o && same_name name s) ≡ b → grant_of (without_grant o s namespace) owner name ≡ (if b then None else grant_of namespace owner name)
    by true is =
        let both = and_parts (eqb owner o) (same_name name s) is in
        let index : owner ≡ o = grind (arith, nat_tests, both.0) in
        let same = name_eq name s both.1 in
        (λ i. find (is_of (index i) (same i)) (filter (λ g. not (is_of o s g)) namespace.granted)) ∙ none_left o s namespace.granted
    by false is = others_left o owner s name namespace.granted is

still_granted : (o owner : ℕ) (s name : List ℕ) (namespace : Namespace) (g : Grant) → grant_of (without_grant o s namespace) owner name ≡ Some g → grant_of namespace owner name ≡ Some g
still_granted o owner s name namespace g h = by (eqb owner o && same_name name s) (sym (left o owner s name namespace) ∙ h)
  where
    by : (b : Bool) → (if b then None else grant_of namespace owner name) ≡ Some g → grant_of namespace owner name ≡ Some g
    by true h = absurd cc
    by false h = h

-- one more grant to a tenant
one_more : (namespaces : List Namespace) (namespace : Namespace) (new : Grant) → Shown namespaces new.owner new.stream new → AreShown namespaces namespace → AreShown namespaces (with_grant new namespace)
one_more namespaces namespace new there all owner name g h = by (find (is_of owner name) namespace.granted) refl (sym (find-append (is_of owner name) namespace.granted (new ∷ [])) ∙ h)
  where
    by : (o : Option Grant) → find (is_of owner name) namespace.granted ≡ o → option_or o (find (is_of owner name) (new ∷ [])) ≡ Some g → Shown namespaces owner name g
    by (Some x) is k = all owner name g (is ∙ k)
    by None is k =
        let one = find_one (is_of owner name) new g k in
        let both = and_parts (eqb owner new.owner) (same_name name new.stream) one.0 in
        let index : owner ≡ new.owner = grind (arith, nat_tests, both.0) in
        let same = name_eq name new.stream both.1 in
        (there.0, ap (λ o. stream_at namespaces o name) index ∙ ap (stream_at namespaces new.owner) same ∙ there.1, subst (λ x. IsGrantOf x there.0) one.1 there.2)

-- the grants after an accepted command are of streams that were there before it
grants_of_old : (namespaces : List Namespace) (user : ℕ) (command : StreamCommand) → refused namespaces user command ≡ None → ((j : ℕ) → AreShown namespaces (namespace_at namespaces j)) → (j : ℕ) → AreShown namespaces (namespace_at (done namespaces user command) j)
grants_of_old namespaces user (Make name schema) accepted all j = grow_at (AreShown namespaces) (AreShown namespaces) namespaces user (with_stream name _ (namespace_at namespaces user)) (λ h. h) (λ namespace h. h) j (all j)
grants_of_old namespaces user (Put stream at row) accepted all j = grow_at (AreShown namespaces) (AreShown namespaces) namespaces user (with_time stream at (namespace_at namespaces user)) (λ h. h) (λ namespace h. h) j (all j)
grants_of_old namespaces user (Beat stream at) accepted all j = grow_at (AreShown namespaces) (AreShown namespaces) namespaces user (with_time stream _ (namespace_at namespaces user)) (λ h. h) (λ namespace h. h) j (all j)
grants_of_old namespaces user (Share stream to columns) accepted all j = by (tenant_named namespaces user to)
  where
    new : Grant
    new = new_grant namespaces user stream columns

    by : (o : Option ℕ) → AreShown namespaces (namespace_at (grant_to namespaces new o) j)
    by None = all j
    by (Some index) =
        grow_at (AreShown namespaces) (AreShown namespaces) namespaces index (with_grant new (namespace_at namespaces index))
        (one_more namespaces (namespace_at namespaces index) new (granted_own namespaces user stream to columns accepted)) (λ namespace h. h) j (all j)
grants_of_old namespaces user (Revoke stream to) accepted all j = by (tenant_named namespaces user to)
  where
    by : (o : Option ℕ) → AreShown namespaces (namespace_at (revoke_from namespaces user stream o) j)
    by None = all j
    by (Some index) =
        grow_at (AreShown namespaces) (AreShown namespaces) namespaces index (without_grant user stream (namespace_at namespaces index))
        (λ h owner name g k. h owner name g (still_granted user owner stream name (namespace_at namespaces index) g k)) (λ namespace h. h) j (all j)

-- the first that passes a test passes it
pub find_passes : {A : Type 0} (p : A → Bool) (xs : List A) (g : A) → find p xs ≡ Some g → p g ≡ true
find_passes p [] g h = absurd cc
find_passes {A} p (x ∷ xs) g h = by (find_passes p xs g) (p x) refl (unfolded (p x) refl h)
  where
    unfolded : (b : Bool) → p x ≡ b → find p (x ∷ xs) ≡ Some g → (if b then Some x else find p xs) ≡ Some g
    unfolded true is k = grind (arith, is, k)
    unfolded false is k = grind (arith, is, k)

    by : (find p xs ≡ Some g → p g ≡ true) → (b : Bool) → p x ≡ b → (if b then Some x else find p xs) ≡ Some g → p g ≡ true
    by rest true is k = let same : x ≡ g = cc in sym (ap p same) ∙ is
    by rest false is k = rest k

-- a grant that a tenant has is of the stream that was asked for, which is there
pub record Given (namespaces : List Namespace) (owner : ℕ) (name : List ℕ) (g : Grant) : Type 0 where
  pub owner_is : g.owner ≡ owner
  pub name_is : g.stream ≡ name
  pub stream : Stream
  pub found : stream_at namespaces g.owner name ≡ Some stream
  pub shows : IsGrantOf g stream

pub given : (namespaces : List Namespace) → AreOfStreams namespaces → (user owner : ℕ) (name : List ℕ) (g : Grant) → grant_of (namespace_at namespaces user) owner name ≡ Some g → Given namespaces owner name g
given namespaces all user owner name g h =
    let both = and_parts (eqb owner g.owner) (same_name name g.stream) (find_passes (is_of owner name) (namespace_at namespaces user).granted g h) in
    let index : owner ≡ g.owner = grind (arith, nat_tests, both.0) in
    let there = all user owner name g h in
    record {
      owner_is = sym index;
      name_is = sym (name_eq name g.stream both.1);
      stream = there.0;
      found = sym (ap (λ o. stream_at namespaces o name) index) ∙ there.1;
      shows = there.2;
    }

-- the same, of the namespace that the tenant has
pub given_at : (namespaces now : List Namespace) → AreOfStreams namespaces → namespaces ≡ now → (user owner : ℕ) (name : List ℕ) (namespace : Namespace) (g : Grant) → namespace_at now user ≡ namespace → Some g ≡ grant_of namespace owner name → Given now owner name g
given_at namespaces now all same user owner name namespace g is h = given now (subst AreOfStreams same all) user owner name g (ap (λ x. grant_of x owner name) is ∙ sym h)

-- a namespace whose streams stay, in place of one that it has the grants of or one more
replaced : (namespaces : List Namespace) (i : ℕ) (new : Namespace) → ((m : List ℕ) (s : Stream) → find_named (namespace_at namespaces i).streams m ≡ Some s → Has new.streams m s) → AreShown namespaces new
    → AreOfStreams namespaces → AreOfStreams (set namespaces i new)
replaced namespaces i new keep shown all j owner name g h =
    let old = grow_at (AreShown namespaces) (AreShown namespaces) namespaces i new (λ k. shown) (λ namespace k. k) j (all j) owner name g h in
    let now =
    grow_at (λ namespace. find_named namespace.streams name ≡ Some old.0) (λ namespace. Has namespace.streams name old.0) namespaces i new (keep name old.0) (λ namespace k. still namespace.streams name old.0 k) owner old.1 in
    (now.now, now.found, of_same g old.0 now.now now.schema old.2)

-- after a change of a namespace's streams
pub streams_replaced : (namespaces : List Namespace) (i : ℕ) (old new : Namespace) → namespace_at namespaces i ≡ old → new.granted ≡ old.granted
    → ((m : List ℕ) (s : Stream) → find_named old.streams m ≡ Some s → Has new.streams m s) → AreOfStreams namespaces → AreOfStreams (set namespaces i new)
streams_replaced namespaces i old new is same keep all =
    replaced namespaces i new (λ m s k. keep m s (ap (λ namespace. find_named namespace.streams m) (sym is) ∙ k))
    (λ owner name g h. all i owner name g (ap (λ gs. find (is_of owner name) gs) (ap (λ namespace. namespace.granted) is ∙ sym same) ∙ h)) all

-- after one more grant to a namespace
pub grant_added : (namespaces : List Namespace) (i : ℕ) (old : Namespace) (new : Grant) → namespace_at namespaces i ≡ old → Shown namespaces new.owner new.stream new → AreOfStreams namespaces → AreOfStreams (set namespaces i (with_grant new old))
grant_added namespaces i old new is there all =
    replaced namespaces i (with_grant new old) (λ m s k. still old.streams m s (ap (λ namespace. find_named namespace.streams m) (sym is) ∙ k)) (one_more namespaces old new there (subst (AreShown namespaces) is (all i))) all

-- after a grant is taken from a namespace
pub grant_taken : (namespaces : List Namespace) (i : ℕ) (old : Namespace) (owner : ℕ) (stream : List ℕ) → namespace_at namespaces i ≡ old → AreOfStreams namespaces → AreOfStreams (set namespaces i (without_grant owner stream old))
grant_taken namespaces i old owner stream is all =
    replaced namespaces i (without_grant owner stream old) (λ m s k. still old.streams m s (ap (λ namespace. find_named namespace.streams m) (sym is) ∙ k))
    (λ o name g k. (subst (AreShown namespaces) is (all i)) o name g (still_granted owner o stream name old g k)) all

-- after a change of a stream's time, where it is accepted
pub time_kept : {E : Type 0} (told : Result (Unit {0}) E) (old new : List (Named Stream)) (name : List ℕ) (at : ℕ) → OnOk told (new ≡ change_named (opens at) name old) → OnErr told (new ≡ old)
    → (m : List ℕ) (s : Stream) → find_named old m ≡ Some s → Has new m s
time_kept (Ok u) old new name at ok err m s k = subst (λ l. Has l m s) (sym ok) (timed old name m at s k)
time_kept (Err e) old new name at ok err m s k = subst (λ l. Has l m s) (sym err) (still old m s k)

-- after a stream is made, where there is memory
pub made_kept : {F : Type 0} (told : Result (Unit {0}) F) (namespaces : List Namespace) (i : ℕ) (old new : Namespace) (name : List ℕ) (schema : List Column) → namespace_at namespaces i ≡ old
    → OnOk told (new ≡ with_stream name schema old) → OnErr told (new ≡ old) → AreOfStreams namespaces → AreOfStreams (set namespaces i new)
made_kept {F} told namespaces i old new name schema is ok err all = by told ok err
  where
    same : new ≡ old → AreOfStreams (set namespaces i new)
    same e = subst (λ namespace. AreOfStreams (set namespaces i namespace)) (sym e) (streams_replaced namespaces i old old is refl (λ m s k. still old.streams m s k) all)

    by : (told : Result (Unit {0}) F) → OnOk told (new ≡ with_stream name schema old) → OnErr told (new ≡ old) → AreOfStreams (set namespaces i new)
    by (Ok u) ok err =
        subst (λ namespace. AreOfStreams (set namespaces i namespace)) (sym ok) (streams_replaced namespaces i old (with_stream name schema old) is refl (λ m s k. made old.streams _ m s k) all)
    by (Err e) ok err = same err

after_done : (namespaces : List Namespace) (user : ℕ) (command : StreamCommand) → refused namespaces user command ≡ None → AreOfStreams namespaces → AreOfStreams (done namespaces user command)
after_done namespaces user command accepted all j owner name g h =
    let old = grants_of_old namespaces user command accepted all j owner name g h in
    let now = streams_stay namespaces user command owner name old.0 old.1 in
    (now.now, now.found, of_same g old.0 now.now now.schema old.2)

after_one : (namespaces : List Namespace) (user : ℕ) (command : StreamCommand) → AreOfStreams namespaces → AreOfStreams (streams_after namespaces user command)
after_one namespaces user command all = by (refused namespaces user command) refl
  where
    by : (o : Option StreamRefusal) → refused namespaces user command ≡ o → AreOfStreams (if is_none o then done namespaces user command else namespaces)
    by None is = after_done namespaces user command is all
    by (Some refusal) is = all

after_all : (namespaces : List Namespace) (calls : List (ℕ × StreamCommand)) → AreOfStreams namespaces → AreOfStreams (directory_from namespaces calls)
after_all namespaces [] all = all
after_all namespaces (call ∷ calls) all = after_all (streams_after namespaces call.0 call.1) calls (after_one namespaces call.0 call.1 all)

pub no_grants : (table : List Tenant) (index : ℕ) → (namespace_at (nothing_made table) index).granted ≡ []
no_grants [] index = refl
no_grants (t ∷ table) zero = refl
no_grants (t ∷ table) (suc index) = no_grants table index

-- before the first grant
pub none_of_streams : (table : List Tenant) → AreOfStreams (nothing_made table)
none_of_streams table index owner name g h = absurd (none index owner name g h)
  where
    none : (index owner : ℕ) (name : List ℕ) (g : Grant) → grant_of (namespace_at (nothing_made table) index) owner name ≡ Some g → ⊥
    none index owner name g h = let empty = sym (ap (find (is_of owner name)) (no_grants table index)) ∙ h in cc

pub all_of_streams : IsGrantLaw
all_of_streams table calls = after_all (nothing_made table) calls (none_of_streams table)
