-- What a tenant reads stays readable, and takes no earlier times.
use Rattle.std.proofs.Common.{◌≡◌, ℕ, ◌+◌, ◌≤◌, ◌<◌, Bool, true, false, ◌&&◌, ◌||◌, eqb, List, length, set, refl, subst, ◌∙◌, sym, arith}
use Rattle.std.specs.Prelude.{Option, Some, None, option_map, unwrap_or, is_some, is_none, nat_lt, if◌then◌else◌}
use Rattle.std.proofs.lemmas.Bool.Decides.{nat_tests}
use Rattle.cql_value.specs.declared.value.Value.{Value}
use Rattle.cql_value.specs.declared.schema.Column.{Column}
use Rattle.cql_value.specs.Schema.{is_row_of}
use Rattle.cql_tenants.specs.Clock.{greatest}
use Rattle.cql_tenants.specs.declared.clock.ClockError.TheVariants as clock
use Rattle.cql_tenants.specs.Granted.{Grant as grant}
use Rattle.cql_tenants.specs.declared.namespace.Namespace.{Namespace}
use Rattle.cql_tenants.specs.declared.stream_refusal.StreamRefusal.{StreamRefusal}
use Rattle.cql_tenants.specs.declared.stream_refusal.StreamRefusal.TheVariants as refused
use Rattle.cql_tenants.specs.declared.stream.Stream.{Stream as stream}
use Rattle.cql_tenants.specs.Refusal.{clock_refusal}
use Rattle.cql_tenants.specs.Named.{same_name, find_named}
use Rattle.cql_tenants.specs.Namespace.{has_tenant, namespace_at, change_namespace, tenant_named, stream_at, is_of, grant_of, without_grant}
use Rattle.cql_tenants.specs.Lookup.{opened_at, own_found, granted_found}
use Rattle.cql_tenants.specs.Taking.{time_refused, put_refused, beat_refused, opens}
use Rattle.cql_tenants.specs.Directory.{with_stream, with_time, with_grant, new_grant, grant_to, revoke_from}
use Rattle.cql_tenants.specs.Readable.{StreamView}
use Rattle.cql_core.specs.declared.command.Command.{Command}
use Rattle.cql_core.specs.declared.command.Command.TheVariants.{Stream, Grant, Revoke, Put, Beat, Query, Fetch, Ack, Drop, List as Lists}
use Rattle.cql_core.specs.StreamId.{StreamId, stream_id_of, same_stream_id}
use Rattle.cql_core.specs.ReplyModel.{done_unless, is_accepted}
use Rattle.cql_core.specs.Directory.{directory_after}
use Rattle.cql_core.specs.Lookup.{readable_to, opened_in}
use Rattle.cql_core.specs.View.{is_tenant}
use Rattle.cql_core.proofs.Keys.{stream_id_eq, turned}
use Rattle.cql_tenants.proofs.Kept.{grow_at}
use Rattle.cql_core.proofs.Look.{part_kept, some_change, some_push, some_map, some_find_push, clock_of, opened_time, opened_make, opened_grant}
use Rattle.cql_core.proofs.Namespaces.{tenant_within, opened_read, granted_left, opened_revoke}

-- it is read, and takes nothing below this
abbrev pub Reaches : ℕ → Option StreamView → Type 0
Reaches n None = ⊥
Reaches n (Some s) = n ≤ s.opened

-- there is such a stream, and it takes this time
abbrev pub Takes : Option stream → ℕ → Type 0
Takes None at = ⊥
Takes (Some s) at = s.clock ≤ at

abbrev pub Grows : (StreamId → Option StreamView) → (StreamId → Option StreamView) → Type 0
Grows f g = (p : StreamId) (n : ℕ) → Reaches n (f p) → Reaches n (g p)

pub takes_more : (o : Option stream) (at : ℕ) → Takes o at → Takes o (at + 1)
takes_more None at h = h
takes_more (Some s) at h = omega (arith, h)

-- WHAT IS ACCEPTED
pub time_taken : (s : stream) (at : ℕ) → is_accepted (done_unless (time_refused s at)) ≡ true → s.clock ≤ at
time_taken s at h = by (nat_lt greatest at) (nat_lt at s.clock) refl h
  where
    by : (a b : Bool) → nat_lt at s.clock ≡ b → is_accepted (done_unless (option_map clock_refusal (if a then Some clock.AtTooLarge else (if b then Some clock.Late else None)))) ≡ true → s.clock ≤ at
    by true b is h = absurd cc
    by false true is h = absurd cc
    by false false is h = grind (arith, nat_tests)

pub put_takes : (o : Option stream) (at : ℕ) (row : List Value) → is_accepted (done_unless (put_refused o at row)) ≡ true → Takes o at
put_takes None at row h = absurd cc
put_takes (Some s) at row h = by (is_row_of s.schema row) h
  where
    by : (b : Bool) → is_accepted (done_unless (if b then time_refused s at else Some refused.WrongRow)) ≡ true → s.clock ≤ at
    by true h = time_taken s at h
    by false h = absurd cc

pub beat_takes : (o : Option stream) (at : ℕ) → is_accepted (done_unless (beat_refused o at)) ≡ true → Takes o at
beat_takes None at h = absurd cc
beat_takes (Some s) at h = time_taken s at h

takes_some : (o : Option stream) (at : ℕ) → Takes o at → (is_some o ≡ true) × (clock_of o ≤ at)
takes_some None at h = absurd h
takes_some (Some s) at h = (refl, h)

-- WHAT STAYS
-- streams and grants stay, and times do not fall
pub record Stays (d d' : List Namespace) : Type 0 where
  pub streams : (o : ℕ) (m : List ℕ) → is_some (stream_at d o m) ≡ true → is_some (stream_at d' o m) ≡ true
  pub granted : (r o : ℕ) (m : List ℕ) → is_some (grant_of (namespace_at d r) o m) ≡ true → is_some (grant_of (namespace_at d' r) o m) ≡ true
  pub times : (o : ℕ) (m : List ℕ) → opened_at d o m ≤ opened_at d' o m

stays_same : (d : List Namespace) → Stays d d
stays_same d = record { streams = λ o m h. h; granted = λ r o m h. h; times = λ o m. omega arith }

-- a namespace changes
stays_namespace : (d : List Namespace) (u : ℕ) (h : Namespace) → ((m : List ℕ) → is_some (find_named (namespace_at d u).streams m) ≡ true → is_some (find_named h.streams m) ≡ true)
    → ((o : ℕ) (m : List ℕ) → is_some (grant_of (namespace_at d u) o m) ≡ true → is_some (grant_of h o m) ≡ true) → ((o : ℕ) (m : List ℕ) → opened_at d o m ≤ opened_at (set d u h) o m) → Stays d (set d u h)
stays_namespace d u h streams granted times = record {
  streams = λ o m. grow_at (λ x. is_some (find_named x.streams m) ≡ true) (λ x. is_some (find_named x.streams m) ≡ true) d u h (streams m) (λ x r. r) o;
  granted = λ r o m. grow_at (λ x. is_some (grant_of x o m) ≡ true) (λ x. is_some (grant_of x o m) ≡ true) d u h (granted o m) (λ x r. r) r;
  times = times;
}

or_more : (a b : Bool) → a ≡ true → (a || b) ≡ true
or_more true b h = refl
or_more false b h = absurd cc

same_times : (n m : ℕ) → m ≡ n → n ≤ m
same_times n m e = omega (arith, e)

stays_make : (d : List Namespace) (u : ℕ) (name : List ℕ) (schema : List Column) → Stays d (change_namespace (with_stream name schema) d u)
stays_make d u name schema =
    stays_namespace d u (with_stream name schema (namespace_at d u))
    (λ m h. some_push (namespace_at d u).streams _ m ∙ or_more _ _ h)
    (λ o m h. h)
    (λ o m. same_times _ _ (opened_make d u name schema o m))

stays_grant : (d : List Namespace) (g : grant) (o : Option ℕ) → Stays d (grant_to d g o)
stays_grant d g None = stays_same d
stays_grant d g (Some index) =
    stays_namespace d index (with_grant g (namespace_at d index))
    (λ m h. h)
    (λ o m h. some_find_push (is_of o m) (namespace_at d index).granted g ∙ or_more _ _ h)
    (λ o m. same_times _ _ (opened_grant d index g o m))

later_by : (d : List Namespace) (u : ℕ) (n : List ℕ) (at o : ℕ) (m : List ℕ) → opened_at d u n ≤ at → (b : Bool)
    → same_stream_id (stream_id_of u n) (stream_id_of o m) ≡ b → opened_at d o m ≤ (if b then at else opened_at d o m)
later_by d u n at o m le true is = subst (λ (p : StreamId). opened_at d p.owner p.name ≤ at) (stream_id_eq (stream_id_of u n) (stream_id_of o m) is) le
later_by d u n at o m le false is = omega arith

stays_time : (d : List Namespace) (u : ℕ) (n : List ℕ) (at : ℕ) → u < length d → Takes (stream_at d u n) at → Stays d (change_namespace (with_time n at) d u)
stays_time d u n at here takes =
    let some = takes_some (stream_at d u n) at takes in
    stays_namespace d u (with_time n at (namespace_at d u))
    (λ m h. some_change (opens at) (namespace_at d u).streams n m ∙ h)
    (λ o m h. h)
    (λ o m. subst (λ (n : ℕ). opened_at d o m ≤ n) (sym (opened_time d u n at here some.0 o m)) (later_by d u n at o m some.1 _ refl))

stays_if : (b : Bool) (r : Option StreamRefusal) (d d' : List Namespace) → (b ≡ true → is_accepted (done_unless r) ≡ true → Stays d d') → Stays d (if is_none (if b then r else Some refused.UnknownTenant) then d' else d)
stays_if true None d d' stays = stays refl refl
stays_if true (Some x) d d' stays = stays_same d
stays_if false r d d' stays = stays_same d

-- it takes a grant back
abbrev pub is_revoke : Command → Bool
is_revoke (Stream name columns) = false
is_revoke (Grant n to columns) = false
is_revoke (Revoke n to) = true
is_revoke (Put n at row) = false
is_revoke (Beat n at) = false
is_revoke (Query name text) = false
is_revoke (Fetch name until) = false
is_revoke (Ack name to) = false
is_revoke (Drop name) = false
is_revoke Lists = false

-- each other command of each user
pub namespaces_stay : (d : List Namespace) (u : ℕ) (c : Command) → is_revoke c ≡ false → Stays d (directory_after d u c)
namespaces_stay d u (Stream name columns) e = stays_if (has_tenant d u) _ d _ (λ here fine. stays_make d u name _)
namespaces_stay d u (Grant n to columns) e = stays_if (has_tenant d u) _ d _ (λ here fine. stays_grant d (new_grant d u n columns) (tenant_named d u to))
namespaces_stay d u (Revoke n to) e = absurd cc
namespaces_stay d u (Put n at row) e = stays_if (has_tenant d u) _ d _ (λ here fine. stays_time d u n at (tenant_within d u here) (put_takes _ at row fine))
namespaces_stay d u (Beat n at) e = stays_if (has_tenant d u) _ d _ (λ here fine. stays_time d u n (at + 1) (tenant_within d u here) (takes_more _ at (beat_takes _ at fine)))
namespaces_stay d u (Query name text) e = stays_same d
namespaces_stay d u (Fetch name until) e = stays_same d
namespaces_stay d u (Ack name to) e = stays_same d
namespaces_stay d u (Drop name) e = stays_same d
namespaces_stay d u Lists e = stays_same d

-- WHAT IS READ STAYS
reach_parts : (n : ℕ) (o : Option StreamView) → Reaches n o → (is_some o ≡ true) × (n ≤ unwrap_or (option_map (λ s. s.opened) o) 0)
reach_parts n None h = absurd h
reach_parts n (Some s) h = (refl, h)

reach_of : (n : ℕ) (o : Option StreamView) → is_some o ≡ true → n ≤ unwrap_or (option_map (λ s. s.opened) o) 0 → Reaches n o
reach_of n None some le = absurd cc
reach_of n (Some s) some le = le

-- what is read is read up to its stream's time
pub reach_opened : (d : List Namespace) (t : ℕ) (p : StreamId) (n : ℕ) → Reaches n (readable_to d t p) → (is_some (readable_to d t p) ≡ true) × (n ≤ opened_in d p)
reach_opened d t p n h =
    let parts = reach_parts n (readable_to d t p) h in
    (parts.0, subst (λ (m : ℕ). n ≤ m) (sym (opened_read d t p parts.0)) parts.1)

pub opened_reach : (d : List Namespace) (t : ℕ) (p : StreamId) (n : ℕ) → is_some (readable_to d t p) ≡ true → n ≤ opened_in d p → Reaches n (readable_to d t p)
opened_reach d t p n some le = reach_of n (readable_to d t p) some (subst (λ (m : ℕ). n ≤ m) (opened_read d t p some) le)

some_by : (b : Bool) (d d' : List Namespace) (t : ℕ) (p : StreamId) → (is_some (stream_at d t p.name) ≡ true → is_some (stream_at d' t p.name) ≡ true)
    → (is_some (grant_of (namespace_at d t) p.owner p.name) ≡ true → is_some (grant_of (namespace_at d' t) p.owner p.name) ≡ true)
    → is_some (if b then own_found d t p.name else granted_found d t p.owner p.name) ≡ true → is_some (if b then own_found d' t p.name else granted_found d' t p.owner p.name) ≡ true
some_by true d d' t p streams granted h = some_map _ (stream_at d' t p.name) ∙ streams (sym (some_map _ (stream_at d t p.name)) ∙ h)
some_by false d d' t p streams granted h = some_map _ (grant_of (namespace_at d' t) p.owner p.name) ∙ granted (sym (some_map _ (grant_of (namespace_at d t) p.owner p.name)) ∙ h)

pub stays_grow : (t : ℕ) (d d' : List Namespace) → Stays d d' → Grows (readable_to d t) (readable_to d' t)
stays_grow t d d' stays p n h =
    let parts = reach_opened d t p n h in
    let times = stays.times p.owner p.name in
    let le = parts.1 in
    opened_reach d' t p n (some_by (eqb p.owner t) d d' t p (stays.streams t p.name) (stays.granted t p.owner p.name) parts.0) (omega (arith, times, le))

-- each command but a revoke keeps what each tenant reads
pub namespaces_grow : (t : ℕ) (d : List Namespace) (u : ℕ) (c : Command) → is_revoke c ≡ false → Grows (readable_to d t) (readable_to (directory_after d u c) t)
namespaces_grow t d u c e = stays_grow t d (directory_after d u c) (namespaces_stay d u c e)

-- the tenant loses the stream by a revoke
abbrev pub is_lost : ℕ → Option ℕ → StreamId → StreamId → Bool
is_lost t o lost p = is_tenant t o && same_stream_id p lost

-- a revoke keeps all that each tenant reads, but the stream of the tenant that loses it
pub revoke_grow : (t : ℕ) (d : List Namespace) (u : ℕ) (n : List ℕ) (o : Option ℕ) → ((index : ℕ) → o ≡ Some index → index < length d) → (p : StreamId) (m : ℕ) → is_lost t o (stream_id_of u n) p ≡ false
    → Reaches m (readable_to d t p) → Reaches m (readable_to (revoke_from d u n o) t p)
revoke_grow t d u n None within p m away h = h
revoke_grow t d u n (Some index) within p m away h =
    let d' : List Namespace = revoke_from d u n (Some index) in
    let parts = reach_opened d t p m h in
    let le = parts.1 in
    let times = same_times _ _ (opened_revoke d index u n p.owner p.name) in
    let far : (eqb t index && (eqb p.owner u && same_name p.name n)) ≡ false = (λ i. turned index t (eqb index t) refl i && (eqb p.owner u && same_name p.name n)) ∙ away in
    opened_reach d' t p m
    (some_by (eqb p.owner t) d d' t p
    (λ there. part_kept (λ x. is_some (find_named x.streams p.name)) d index (without_grant u n (namespace_at d index)) refl t ∙ there)
    (λ there. granted_left d index u n t p.owner p.name (within index refl) ∙ (λ i. if far i then false else is_some (grant_of (namespace_at d t) p.owner p.name)) ∙ there) parts.0)
    (omega (arith, times, le))

-- a time that a stream takes is not below what its readers reach
pub reach_takes : (d : List Namespace) (t : ℕ) (p : StreamId) (n at : ℕ) → Takes (stream_at d p.owner p.name) at → Reaches n (readable_to d t p) → n ≤ at
reach_takes d t p n at takes h =
    let low = (reach_opened d t p n h).1 in
    let high = (takes_some (stream_at d p.owner p.name) at takes).1 in
    omega (arith, low, high)
