-- What a tenant reads stays with its projection, and a row that is accepted has its columns.
use Rattle.std.proofs.Common.{◌≡◌, ◌<◌, ◌+◌, ℕ, zero, suc, Bool, true, false, ◌&&◌, eqb, List, [], ◌∷◌, ◌++◌, length, refl, ap, subst, ◌∙◌, sym}
use Rattle.std.specs.Prelude.{Option, Some, None, option_map, is_some, is_none, slice_get, if◌then◌else◌}
use Rattle.std.specs.Option.{option_or}
use Rattle.std.specs.List.{AllByRecursion, find, cons_option, range_with_len}
use Rattle.std.proofs.lemmas.List.Folds.{find-append}
use Rattle.std.proofs.lemmas.Bool.{and_parts}
use Rattle.cql_value.specs.declared.value.Value.{Value}
use Rattle.cql_value.specs.Element.{Element}
use Rattle.cql_value.specs.Schema.{is_row_of}
use Rattle.cql_tenants.specs.Granted.{Grant as grant}
use Rattle.cql_tenants.specs.declared.namespace.Namespace.{Namespace}
use Rattle.cql_tenants.specs.declared.stream_refusal.StreamRefusal.TheVariants as refusal
use Rattle.cql_tenants.specs.declared.stream.Stream.{Stream as stream}
use Rattle.cql_tenants.specs.declared.tenants.Tenant.{Tenant}
use Rattle.cql_tenants.specs.Named.{same_name, find_named}
use Rattle.cql_window.specs.Projection.{projected, whole_projection}
use Rattle.cql_window.specs.Through.{HasProjection, narrowed}
use Rattle.cql_window.proofs.Picks.{read_at, at_all}
use Rattle.cql_tenants.specs.Taking.{put_refused, time_refused}
use Rattle.cql_tenants.specs.Namespace.{namespace_at, change_namespace, tenant_named, stream_at, is_of, grant_of, without_grant, nothing_made}
use Rattle.cql_tenants.specs.Lookup.{opened_at, own_found, granted_found}
use Rattle.cql_tenants.specs.Directory.{StreamCommand, Make as make, Share as share, Revoke as revoke, Put as put, Beat as beat, refused, done, with_grant, new_grant, grant_to, revoke_from}
use Rattle.cql_tenants.specs.Directory.{streams_after}
use Rattle.cql_tenants.specs.Law.{AreOfStreams, directory_from}
use Rattle.cql_tenants.specs.Readable.{StreamView, own_projection, granted_projection}
use Rattle.cql_window.proofs.Choices.{shown_within}
use Rattle.cql_tenants.proofs.Grants.{left, all_of_streams}
use Rattle.cql_tenants.proofs.Kept.{grow_at, streams_stay}
use Rattle.cql_core.specs.declared.command.Command.{Command}
use Rattle.cql_core.specs.declared.command.Command.TheVariants.{Stream, Grant, Revoke, Put, Beat, Query, Fetch, Ack, Drop, List as Lists}
use Rattle.cql_core.specs.Columns.{schema_of}
use Rattle.cql_core.specs.StreamId.{StreamId, stream_id_of, projection_in}
use Rattle.cql_core.specs.ReplyModel.{done_unless, is_accepted}
use Rattle.cql_core.specs.Directory.{directory_after}
use Rattle.cql_core.specs.Lookup.{readable_to}
use Rattle.cql_core.proofs.Keys.{same_nat, nat_same, turned}
use Rattle.cql_core.proofs.Look.{namespace_same, namespace_other, part_kept, some_is, some_map}
use Rattle.cql_core.proofs.Grows.{is_revoke, is_lost, namespaces_grow, revoke_grow, reach_opened}
use Rattle.cql_core.proofs.Shown.{Keeps}

-- OWN STREAMS
own_done : (d : List Namespace) (u : ℕ) (c : StreamCommand) (o : ℕ) (n : List ℕ) → is_some (stream_at d o n) ≡ true → own_projection (stream_at (done d u c) o n) ≡ own_projection (stream_at d o n)
own_done d u c o n some =
    let s = some_is (stream_at d o n) some in
    let now = streams_stay d u c o n s.0 s.1 in
    ap own_projection now.found ∙ ap (λ l. whole_projection (length l)) now.schema ∙ sym (ap own_projection s.1)

own_kept : (d : List Namespace) (u : ℕ) (c : StreamCommand) (o : ℕ) (n : List ℕ) → is_some (stream_at d o n) ≡ true → own_projection (stream_at (streams_after d u c) o n) ≡ own_projection (stream_at d o n)
own_kept d u c o n some = by (is_none (refused d u c))
  where
    by : (b : Bool) → own_projection (stream_at (if b then done d u c else d) o n) ≡ own_projection (stream_at d o n)
    by true = own_done d u c o n some
    by false = refl

-- GRANTS
grant_push : (d : List Namespace) (g x : grant) (index : Option ℕ) (r o : ℕ) (n : List ℕ) → grant_of (namespace_at d r) o n ≡ Some x → grant_of (namespace_at (grant_to d g index) r) o n ≡ Some x
grant_push d g x None r o n e = e
grant_push d g x (Some index) r o n e =
    grow_at (λ h. grant_of h o n ≡ Some x) (λ h. grant_of h o n ≡ Some x) d index (with_grant g (namespace_at d index))
    (λ e. find-append (is_of o n) (namespace_at d index).granted (g ∷ []) ∙ ap (λ a. option_or a (find (is_of o n) (g ∷ []))) e) (λ h e. e) r e

grant_shared : (d : List Namespace) (g : grant) (index : Option ℕ) (r o : ℕ) (n : List ℕ) → is_some (grant_of (namespace_at d r) o n) ≡ true
    → granted_projection (grant_of (namespace_at (grant_to d g index) r) o n) ≡ granted_projection (grant_of (namespace_at d r) o n)
grant_shared d g index r o n some =
    let x = some_is (grant_of (namespace_at d r) o n) some in
    ap granted_projection (grant_push d g x.0 index r o n x.1) ∙ sym (ap granted_projection x.1)

either_projection : (b : Bool) (d d' : List Namespace) (r o : ℕ) (n : List ℕ) → granted_projection (grant_of (namespace_at d' r) o n) ≡ granted_projection (grant_of (namespace_at d r) o n)
    → granted_projection (grant_of (namespace_at (if b then d' else d) r) o n) ≡ granted_projection (grant_of (namespace_at d r) o n)
either_projection true d d' r o n e = e
either_projection false d d' r o n e = refl

grant_kept : (d : List Namespace) (u : ℕ) (c : Command) → is_revoke c ≡ false → (r o : ℕ) (n : List ℕ) → is_some (grant_of (namespace_at d r) o n) ≡ true
    → granted_projection (grant_of (namespace_at (directory_after d u c) r) o n) ≡ granted_projection (grant_of (namespace_at d r) o n)
grant_kept d u (Stream name columns) e r o n some = either_projection _ d _ r o n (ap granted_projection (part_kept (λ h. grant_of h o n) d u _ refl r))
grant_kept d u (Grant m to columns) e r o n some = either_projection _ d _ r o n (grant_shared d (new_grant d u m columns) (tenant_named d u to) r o n some)
grant_kept d u (Revoke m to) e r o n some = absurd cc
grant_kept d u (Put m at row) e r o n some = either_projection _ d _ r o n (ap granted_projection (part_kept (λ h. grant_of h o n) d u _ refl r))
grant_kept d u (Beat m at) e r o n some = either_projection _ d _ r o n (ap granted_projection (part_kept (λ h. grant_of h o n) d u _ refl r))
grant_kept d u (Query name text) e r o n some = refl
grant_kept d u (Fetch name until) e r o n some = refl
grant_kept d u (Ack name to) e r o n some = refl
grant_kept d u (Drop name) e r o n some = refl
grant_kept d u Lists e r o n some = refl

own_after : (d : List Namespace) (u : ℕ) (c : Command) (o : ℕ) (n : List ℕ) → is_some (stream_at d o n) ≡ true → own_projection (stream_at (directory_after d u c) o n) ≡ own_projection (stream_at d o n)
own_after d u (Stream name columns) o n some = own_kept d u (make name (schema_of columns)) o n some
own_after d u (Grant m to columns) o n some = own_kept d u (share m to columns) o n some
own_after d u (Revoke m to) o n some = own_kept d u (revoke m to) o n some
own_after d u (Put m at row) o n some = own_kept d u (put m at row) o n some
own_after d u (Beat m at) o n some = own_kept d u (beat m at) o n some
own_after d u (Query name text) o n some = refl
own_after d u (Fetch name until) o n some = refl
own_after d u (Ack name to) o n some = refl
own_after d u (Drop name) o n some = refl
own_after d u Lists o n some = refl

projection_by : (b : Bool) (d d' : List Namespace) (t : ℕ) (p : StreamId) → (is_some (stream_at d t p.name) ≡ true → own_projection (stream_at d' t p.name) ≡ own_projection (stream_at d t p.name))
    → (is_some (grant_of (namespace_at d t) p.owner p.name) ≡ true → granted_projection (grant_of (namespace_at d' t) p.owner p.name) ≡ granted_projection (grant_of (namespace_at d t) p.owner p.name))
    → is_some (if b then own_found d t p.name else granted_found d t p.owner p.name) ≡ true
    → (if b then own_projection (stream_at d' t p.name) else granted_projection (grant_of (namespace_at d' t) p.owner p.name))
    ≡ (if b then own_projection (stream_at d t p.name) else granted_projection (grant_of (namespace_at d t) p.owner p.name))
projection_by true d d' t p own granted some = own (sym (some_map _ (stream_at d t p.name)) ∙ some)
projection_by false d d' t p own granted some = granted (sym (some_map _ (grant_of (namespace_at d t) p.owner p.name)) ∙ some)

-- each command but a revoke keeps all
pub keeps_after : (t : ℕ) (d : List Namespace) (u : ℕ) (c : Command) → is_revoke c ≡ false → Keeps t d (directory_after d u c) (λ p. false)
keeps_after t d u c e = record {
  read = λ p away h. namespaces_grow t d u c e p 0 h;
  projection = λ p away h. projection_by (eqb p.owner t) d (directory_after d u c) t p (own_after d u c t p.name) (grant_kept d u c e t p.owner p.name) (reach_opened d t p 0 h).0;
}

-- A REVOKE
revoke_left : (d : List Namespace) (index u : ℕ) (n : List ℕ) (r o : ℕ) (m : List ℕ) → index < length d → (b : Bool) → eqb r index ≡ b → (b && (eqb o u && same_name m n)) ≡ false
    → grant_of (namespace_at (change_namespace (without_grant u n) d index) r) o m ≡ grant_of (namespace_at d r) o m
revoke_left d index u n r o m lt true is away =
    subst (λ (r : ℕ). grant_of (namespace_at (change_namespace (without_grant u n) d index) r) o m ≡ grant_of (namespace_at d r) o m) (sym (same_nat r index is))
    (ap (λ h. grant_of h o m) (namespace_same d index _ lt) ∙ left u o n m (namespace_at d index) ∙ (λ i. if away i then None else grant_of (namespace_at d index) o m))
revoke_left d index u n r o m lt false is away = ap (λ h. grant_of h o m) (namespace_other d index r _ is)

pub keeps_revoke : (t : ℕ) (d : List Namespace) (u : ℕ) (n : List ℕ) (o : Option ℕ) → ((index : ℕ) → o ≡ Some index → index < length d) → Keeps t d (revoke_from d u n o) (is_lost t o (stream_id_of u n))
keeps_revoke t d u n None within = record { read = λ p away h. h; projection = λ p away h. refl }
keeps_revoke t d u n (Some index) within = record {
  read = λ p away h. revoke_grow t d u n (Some index) within p 0 away h;
  projection = λ p away h. projection_by (eqb p.owner t) d (revoke_from d u n (Some index)) t p
      (λ some. ap own_projection (part_kept (λ x. find_named x.streams p.name) d index (without_grant u n (namespace_at d index)) refl t))
      (λ some. ap granted_projection (revoke_left d index u n t p.owner p.name (within index refl) _ refl ((λ i. turned index t (eqb index t) refl i && (eqb p.owner u && same_name p.name n)) ∙ away)))
      (reach_opened d t p 0 h).0;
}

-- A DIRECTORY THAT CAME ABOUT
pub record Reached (d : List Namespace) : Type 0 where
  pub table : List Tenant
  pub calls : List (ℕ × StreamCommand)
  pub is : d ≡ directory_from (nothing_made table) calls

one_call : (d : List Namespace) (calls : List (ℕ × StreamCommand)) (x : ℕ × StreamCommand) → directory_from d (calls ++ x ∷ []) ≡ streams_after (directory_from d calls) x.0 x.1
one_call d [] x = refl
one_call d (c ∷ calls) x = one_call (streams_after d c.0 c.1) calls x

reached_more : (d : List Namespace) (u : ℕ) (c : StreamCommand) → Reached d → Reached (streams_after d u c)
reached_more d u c r = record { table = r.table; calls = r.calls ++ (u, c) ∷ []; is = ap (λ d. streams_after d u c) r.is ∙ sym (one_call (nothing_made r.table) r.calls (u, c)) }

pub reached_after : (d : List Namespace) (u : ℕ) (c : Command) → Reached d → Reached (directory_after d u c)
reached_after d u (Stream name columns) r = reached_more d u (make name (schema_of columns)) r
reached_after d u (Grant m to columns) r = reached_more d u (share m to columns) r
reached_after d u (Revoke m to) r = reached_more d u (revoke m to) r
reached_after d u (Put m at row) r = reached_more d u (put m at row) r
reached_after d u (Beat m at) r = reached_more d u (beat m at) r
reached_after d u (Query name text) r = r
reached_after d u (Fetch name until) r = r
reached_after d u (Ack name to) r = r
reached_after d u (Drop name) r = r
reached_after d u Lists r = r

pub reached_opening : (table : List Tenant) → Reached (nothing_made table)
reached_opening table = record { table = table; calls = []; is = refl }

of_streams : (d : List Namespace) → Reached d → AreOfStreams d
of_streams d r = subst AreOfStreams (sym r.is) (all_of_streams r.table r.calls)

-- A ROW THAT IS ACCEPTED
-- it has as many values as the stream has columns
pub put_row : (o : Option stream) (at : ℕ) (row : List Value) → is_accepted (done_unless (put_refused o at row)) ≡ true → (s : stream) × (o ≡ Some s) × (length row ≡ length s.schema)
put_row None at row h = absurd cc
put_row (Some s) at row h = (s, refl, by (is_row_of s.schema row) refl h)
  where
    by : (b : Bool) → is_row_of s.schema row ≡ b → is_accepted (done_unless (if b then time_refused s at else Some refusal.WrongRow)) ≡ true → length row ≡ length s.schema
    by true is h = same_nat (length row) (length s.schema) (and_parts (eqb (length row) (length s.schema)) _ is).0
    by false is h = absurd cc

has_own : (s : stream) (row : List Value) → length row ≡ length s.schema → AllByRecursion (λ column. column < length row) (whole_projection (length s.schema))
has_own s row e = subst (λ n. AllByRecursion (λ column. column < n) (whole_projection (length s.schema))) (sym e) (shown_within s.schema None refl)

has_granted : (d : List Namespace) → Reached d → (t u : ℕ) (n : List ℕ) (s : stream) (x : Element) → stream_at d u n ≡ Some s → length x.row ≡ length s.schema
    → (o : Option grant) → grant_of (namespace_at d t) u n ≡ o → HasProjection (granted_projection o) x
has_granted d r t u n s x there size None is = tt
has_granted d r t u n s x there size (Some g) is =
    let old = of_streams d r t u n g is in
    let both : Some (old.0) ≡ Some s = sym old.1 ∙ there in
    let same : old.0 ≡ s = cc in
    subst (λ m. AllByRecursion (λ column. column < m) g.projection) (ap (λ (s : stream). length s.schema) same ∙ sym size) old.2.within

put_has_by : (d : List Namespace) → Reached d → (t u : ℕ) (n : List ℕ) (s : stream) (x : Element) → stream_at d u n ≡ Some s → length x.row ≡ length s.schema → (b : Bool) → eqb u t ≡ b
    → HasProjection (if b then own_projection (stream_at d t n) else granted_projection (grant_of (namespace_at d t) u n)) x
put_has_by d r t u n s x there size true is =
    let own : stream_at d t n ≡ Some s = ap (λ o. stream_at d o n) (sym (same_nat u t is)) ∙ there in
    subst (λ o. HasProjection (own_projection o) x) (sym own) (has_own s x.row size)
put_has_by d r t u n s x there size false is = has_granted d r t u n s x there size _ refl

-- an accepted row has the columns of each tenant that reads it
pub put_has : (d : List Namespace) → Reached d → (t u : ℕ) (n : List ℕ) (x : Element) → is_accepted (done_unless (put_refused (stream_at d u n) x.at x.row)) ≡ true → HasProjection (projection_in d t (stream_id_of u n)) x
put_has d r t u n x fine = let row = put_row (stream_at d u n) x.at x.row fine in put_has_by d r t u n row.0 x row.1 row.2 _ refl

-- its owner sees it whole
pub put_whole : (d : List Namespace) (t : ℕ) (n : List ℕ) (x : Element) → is_accepted (done_unless (put_refused (stream_at d t n) x.at x.row)) ≡ true → narrowed (projection_in d t (stream_id_of t n)) x ≡ x
put_whole d t n x fine =
    let row = put_row (stream_at d t n) x.at x.row fine in
    let all_of : projection_in d t (stream_id_of t n) ≡ whole_projection (length x.row) =
    (λ i. if nat_same t i then own_projection (stream_at d t n) else granted_projection (grant_of (namespace_at d t) t n)) ∙ ap own_projection row.1 ∙ ap whole_projection (sym row.2) in
    λ i. record { at = x.at; row = (ap (projected x.row) all_of ∙ at_all x.row) i }

-- HOW MANY COLUMNS ARE SEEN
one_more : {A : Type 0} (o : Option A) (x : A) (xs : List A) → o ≡ Some x → length (cons_option o xs) ≡ suc (length xs)
one_more None x xs e = absurd cc
one_more (Some y) x xs e = refl

length_at : {A : Type 0} (xs : List A) (ps : List ℕ) → AllByRecursion (λ column. column < length xs) ps → length (projected xs ps) ≡ length ps
length_at xs [] h = refl
length_at xs (p ∷ ps) h = let r = read_at xs p h.0 in one_more (slice_get xs p) r.0 (projected xs ps) r.1 ∙ ap suc (length_at xs ps h.1)

length_all : (from many : ℕ) → length (range_with_len from many) ≡ many
length_all from zero = refl
length_all from (suc many) = ap suc (length_all (from + 1) many)

own_columns : (t : ℕ) (o : Option stream) (v : StreamView) → option_map (λ s. record { owner = t; schema = s.schema; named = false; opened = s.clock }) o ≡ Some v → length (own_projection o) ≡ length v.schema
own_columns t None v e = absurd cc
own_columns t (Some s) v e = length_all 0 (length s.schema) ∙ ap columns e
  where
    columns : Option StreamView → ℕ
    columns None = 0
    columns (Some v) = length v.schema

granted_columns : (d : List Namespace) → Reached d → (t o : ℕ) (n : List ℕ) (v : StreamView) (x : Option grant) → grant_of (namespace_at d t) o n ≡ x
    → option_map (λ g. record { owner = g.owner; schema = g.schema; named = g.named; opened = opened_at d g.owner g.stream }) x ≡ Some v → length (granted_projection x) ≡ length v.schema
granted_columns d r t o n v None is e = absurd cc
granted_columns d r t o n v (Some g) is e =
    let old = of_streams d r t o n g is in
    sym (length_at old.0.schema g.projection old.2.within) ∙ ap length (sym old.2.schema) ∙ ap columns e
  where
    columns : Option StreamView → ℕ
    columns None = 0
    columns (Some v) = length v.schema

columns_by : (d : List Namespace) → Reached d → (t : ℕ) (p : StreamId) (v : StreamView) (b : Bool) → (if b then own_found d t p.name else granted_found d t p.owner p.name) ≡ Some v
    → length (if b then own_projection (stream_at d t p.name) else granted_projection (grant_of (namespace_at d t) p.owner p.name)) ≡ length v.schema
columns_by d r t p v true e = own_columns t (stream_at d t p.name) v e
columns_by d r t p v false e = granted_columns d r t p.owner p.name v _ refl e

-- there are as many indices as columns are seen
pub columns_seen : (d : List Namespace) → Reached d → (t : ℕ) (p : StreamId) (v : StreamView) → readable_to d t p ≡ Some v → length (projection_in d t p) ≡ length v.schema
columns_seen d r t p v e = columns_by d r t p v (eqb p.owner t) e
