-- The directory, and what a tenant knows of it.
use Rattle.std.proofs.Common.{◌≡◌, ℕ, zero, suc, ◌+◌, ◌<◌, Bool, true, false, not, ◌&&◌, ◌||◌, ◌==◌, eqb, List, [], ◌∷◌, ◌++◌, map, length, get_or, set, refl, ap, subst, ◌∙◌, sym, arith, length-set}
use Rattle.std.specs.Prelude.{Option, Some, None, option_map, option_and_then, unwrap_or, is_some, is_none, if◌then◌else◌, nat_lt}
use Rattle.std.specs.List.{find, filter, list_any, position}
use Rattle.std.proofs.lemmas.Bool.Decides.{nat_tests}
use Rattle.std.proofs.lemmas.List.{length-map}
use Rattle.std.proofs.lemmas.List.Quantifiers.{position-Some}
use Rattle.std.proofs.lemmas.Bool.{and_parts}
use Rattle.cql_value.specs.declared.value.Value.{Value}
use Rattle.cql_value.specs.declared.schema.Column.{Column}
use Rattle.cql_value.specs.Element.{Element}
use Rattle.cql_tenants.specs.Granted.{Grant as grant}
use Rattle.cql_tenants.specs.declared.namespace.Namespace.{Namespace}
use Rattle.cql_tenants.specs.declared.stream_refusal.StreamRefusal.{StreamRefusal}
use Rattle.cql_tenants.specs.declared.stream_refusal.StreamRefusal.TheVariants as refused
use Rattle.cql_tenants.specs.declared.stream.Stream.{Stream as stream}
use Rattle.cql_tenants.specs.declared.tenants.Tenant.{Tenant}
use Rattle.cql_tenants.specs.Named.{Named, same_name, find_named, change_named}
use Rattle.cql_tenants.specs.Namespace.{no_namespace, nothing_made, has_tenant, namespace_at, change_namespace, tenant_named, stream_at, is_of, grant_of, without_grant, has_grant}
use Rattle.cql_tenants.specs.Lookup.{opened_at, read_stream, own_found, granted_found, found_of, owner_meant}
use Rattle.cql_tenants.specs.Checks.{grant_refused, taken_refused, make_refused, grantee_refused}
use Rattle.cql_tenants.specs.Taking.{put_refused, beat_refused, opens}
use Rattle.cql_window.specs.Projection.{projected}
use Rattle.cql_window.specs.Chosen.{shown_projection}
use Rattle.cql_tenants.specs.Directory.{revoke_from, with_stream, with_time, with_grant, new_grant, grant_to, Make as make, Share as share, Revoke as revoke, Put as put, Beat as beat}
use Rattle.cql_tenants.specs.Readable.{StreamView}
use Rattle.cql_tenants.specs.Listed.{named_columns}
use Rattle.cql_core.specs.declared.command.ColumnText.{ColumnText}
use Rattle.cql_core.specs.declared.command.Command.{Command}
use Rattle.cql_core.specs.declared.command.Command.TheVariants.{Stream, Grant, Revoke, Put, Beat, Query, Fetch, Ack, Drop, List as Lists}
use Rattle.cql_core.specs.Columns.{schema_of}
use Rattle.cql_core.specs.StreamId.{StreamId, stream_id_of, same_stream_id}
use Rattle.cql_core.specs.ReplyModel.{done_unless, is_accepted}
use Rattle.cql_core.specs.Language.{Language}
use Rattle.cql_core.specs.Directory.{directory_after, reply_on_streams}
use Rattle.cql_core.specs.Lookup.{found_by, readable_to, opened_in}
use Rattle.cql_core.specs.View.{Gone, Comes, Beats, appears, is_tenant, seen_of_other}
use Rattle.cql_core.specs.Solo.{SoloQuery, SoloState, solo_opening, tenant_in, granted_in, stream_in, found_in, is_given, shown_stream, own_meaning, open_granted, with_given, without_given}
use Rattle.cql_core.specs.Solo.{without_granted, solo_done, solo_from}
use Rattle.cql_tenants.proofs.Grants.{find_passes, left, no_grants}
use Rattle.cql_core.proofs.Keys.{name_eq, stream_id_eq, same_nat, nat_same, turned, and_none, or_none, far_key}
use Rattle.cql_core.proofs.Look.{opened_time, opened_make, opened_grant, granted_push, namespace_same, namespace_other, part_kept, get_map, map_set, map_push, position_map, any_push}

-- a grant, as its reader knows it
abbrev pub grant_seen : List Namespace → grant → Named StreamView
grant_seen d g = record { name = g.stream; item = record { owner = g.owner; schema = g.schema; named = g.named; opened = opened_at d g.owner g.stream } }

-- none of these is of a stream of the tenant's own
abbrev pub AreOthers : ℕ → List grant → Type 0
AreOthers t [] = Unit {0}
AreOthers t (g ∷ gs) = (eqb g.owner t ≡ false) × AreOthers t gs

pub record TiedNamespaces (t : ℕ) (d : List Namespace) (k : SoloState) : Type 0 where
  pub names : map (λ h. h.name) d ≡ k.names
  pub quotas : (namespace_at d t).quotas ≡ k.quotas
  pub streams : (namespace_at d t).streams ≡ k.streams
  pub readable : map (grant_seen d) (namespace_at d t).granted ≡ k.readable
  pub apart : AreOthers t (namespace_at d t).granted
  pub given : (index : ℕ) (name : List ℕ) → is_some (grant_of (namespace_at d index) t name) ≡ is_given k name index

-- queries are not looked at
pub requeried : (t : ℕ) (d : List Namespace) (k : SoloState) → TiedNamespaces t d k → (qs : List (Named SoloQuery)) → TiedNamespaces t d (record k { queries = qs })
requeried t d k tied qs = record { names = tied.names; quotas = tied.quotas; streams = tied.streams; readable = tied.readable; apart = tied.apart; given = tied.given }

pub tenant_within : (d : List Namespace) (t : ℕ) → nat_lt t (length d) ≡ true → t < length d
tenant_within d t h = grind (arith, nat_tests)

pub in_place : (d : List Namespace) (t : ℕ) → t < length d → nat_lt t (length d) ≡ true
in_place d t h = grind (arith, nat_tests)

pub names_of_all : (t : ℕ) (d : List Namespace) (k : SoloState) → TiedNamespaces t d k → length d ≡ length k.names
names_of_all t d k tied = sym (length-map d (λ h. h.name)) ∙ ap length tied.names

-- THE OPENING
opening_names : (table : List Tenant) → map (λ h. h.name) (nothing_made table) ≡ map (λ x. x.name) table
opening_names [] = refl
opening_names (x ∷ xs) = ap (λ l. x.name ∷ l) (opening_names xs)

opening_quotas : (table : List Tenant) (t : ℕ) → (namespace_at (nothing_made table) t).quotas ≡ get_or (map (λ x. x.quotas) table) t no_namespace.quotas
opening_quotas [] t = refl
opening_quotas (x ∷ xs) zero = refl
opening_quotas (x ∷ xs) (suc t) = opening_quotas xs t

pub opening_streams : (table : List Tenant) (t : ℕ) → (namespace_at (nothing_made table) t).streams ≡ []
opening_streams [] t = refl
opening_streams (x ∷ xs) zero = refl
opening_streams (x ∷ xs) (suc t) = opening_streams xs t

pub namespaces_tied_opening : (table : List Tenant) (t : ℕ) → TiedNamespaces t (nothing_made table) (solo_opening table t)
namespaces_tied_opening table t = record {
  names = opening_names table;
  quotas = opening_quotas table t;
  streams = opening_streams table t;
  readable = ap (map (grant_seen (nothing_made table))) (no_grants table t);
  apart = subst (AreOthers t) (sym (no_grants table t)) tt;
  given = λ index name. ap (λ gs. is_some (find (is_of t name) gs)) (no_grants table index);
}

-- WHAT IS READ
abbrev own_seen : ℕ → stream → StreamView
own_seen t s = record { owner = t; schema = s.schema; named = false; opened = s.clock }

abbrev granted_seen : List Namespace → grant → StreamView
granted_seen d g = record { owner = g.owner; schema = g.schema; named = g.named; opened = opened_at d g.owner g.stream }

granted_same : (d : List Namespace) (p : StreamId) (gs : List grant) → option_map (granted_seen d) (find (is_of p.owner p.name) gs) ≡ granted_in (map (grant_seen d) gs) p
granted_same d p [] = refl
granted_same d p (g ∷ gs) = by (granted_same d p gs) (is_of p.owner p.name g)
  where
    by : option_map (granted_seen d) (find (is_of p.owner p.name) gs) ≡ granted_in (map (grant_seen d) gs) p → (b : Bool)
        → option_map (granted_seen d) (if b then Some g else find (is_of p.owner p.name) gs) ≡ (if b then Some (granted_seen d g) else granted_in (map (grant_seen d) gs) p)
    by rest true = refl
    by rest false = rest

module _ (t : ℕ) (d : List Namespace) (k : SoloState) (tied : TiedNamespaces t d k) where
  pub same_readable : (p : StreamId) → readable_to d t p ≡ stream_in t k p
  same_readable p = λ i. if p.owner == t then option_map (own_seen t) (find_named (tied.streams i) p.name) else (granted_same d p (namespace_at d t).granted ∙ ap (λ gs. granted_in gs p) tied.readable) i

  pub same_tenant : (name : List ℕ) → tenant_named d t name ≡ tenant_in t k name
  same_tenant name =
      let own : (namespace_at d t).name ≡ get_or k.names t [] = sym (get_map (λ h. h.name) d t no_namespace [] refl) ∙ ap (λ ns. get_or ns t []) tied.names in
      let other : position (λ h. same_name name h.name) d ≡ position (λ other. same_name name other) k.names =
      sym (position_map (λ h. h.name) (λ other. same_name name other) d) ∙ ap (position (λ other. same_name name other)) tied.names in
      λ i. if same_name name (own i) then Some t else other i

  found_at : (o : Option ℕ) (name : List ℕ) → found_of d t o name ≡ option_and_then (λ index. stream_in t k (stream_id_of index name)) o
  found_at None name = refl
  found_at (Some index) name = same_readable (stream_id_of index name)

  pub same_found : (owner : Option (List ℕ)) (name : List ℕ) → found_by d t owner name ≡ found_in t k owner name
  same_found None name = same_readable (stream_id_of t name)
  same_found (Some owner) name = found_at (tenant_named d t owner) name ∙ ap (option_and_then (λ index. stream_in t k (stream_id_of index name))) (same_tenant owner)

  reads_by : (gs : List grant) → map (read_stream d) gs ≡ map (shown_stream k) (map (grant_seen d) gs)
  reads_by [] = refl
  reads_by (g ∷ gs) = λ i. record {
    owner = (sym (get_map (λ h. h.name) d g.owner no_namespace [] refl) ∙ ap (λ ns. get_or ns g.owner []) tied.names) i;
    stream = g.stream;
    columns = named_columns g.named g.schema;
    opened = opened_at d g.owner g.stream;
  } ∷ reads_by gs i

  -- what a list shows of the streams that are read
  pub same_reads : map (read_stream d) (namespace_at d t).granted ≡ map (shown_stream k) k.readable
  same_reads = reads_by (namespace_at d t).granted ∙ ap (map (shown_stream k)) tied.readable

  -- THE REPLIES
  pub same_stream : (name : List ℕ) (columns : List ColumnText) → reply_on_streams d t (make name (schema_of columns)) ≡ done_unless (make_refused k.streams k.quotas.streams name (schema_of columns))
  same_stream name columns = λ i. done_unless (make_refused (tied.streams i) (tied.quotas i).streams name (schema_of columns))

  pub same_grant : (n to : List ℕ) (columns : Option (List (List ℕ))) → reply_on_streams d t (share n to columns) ≡ done_unless (grant_refused t (find_named k.streams n) columns (is_given k n) (tenant_in t k to))
  same_grant n to columns = λ i. done_unless (grant_refused t (find_named (tied.streams i) n) columns (λ index. tied.given index n i) (same_tenant to i))

  pub same_revoke : (n to : List ℕ) → reply_on_streams d t (revoke n to) ≡ done_unless (if is_some (find_named k.streams n) then taken_refused t (is_given k n) (tenant_in t k to) else Some refused.UnknownStream)
  same_revoke n to =
      λ i. done_unless (if is_some (find_named (tied.streams i) n) then taken_refused t (λ index. tied.given index n i) (same_tenant to i) else Some refused.UnknownStream)

  pub same_put : (n : List ℕ) (at : ℕ) (row : List Value) → reply_on_streams d t (put n at row) ≡ done_unless (put_refused (find_named k.streams n) at row)
  same_put n at row = λ i. done_unless (put_refused (find_named (tied.streams i) n) at row)

  pub same_beat : (n : List ℕ) (at : ℕ) → reply_on_streams d t (beat n at) ≡ done_unless (beat_refused (find_named k.streams n) at)
  same_beat n at = λ i. done_unless (beat_refused (find_named (tied.streams i) n) at)

-- the time of a stream that is read
own_time : (t : ℕ) (o : Option stream) → unwrap_or (option_map (λ s. s.clock) o) 0 ≡ unwrap_or (option_map (λ s. s.opened) (option_map (own_seen t) o)) 0
own_time t None = refl
own_time t (Some s) = refl

granted_time : (d : List Namespace) (t : ℕ) (p : StreamId) (o : Option grant) → grant_of (namespace_at d t) p.owner p.name ≡ o → is_some (option_map (granted_seen d) o) ≡ true
    → opened_in d p ≡ unwrap_or (option_map (λ s. s.opened) (option_map (granted_seen d) o)) 0
granted_time d t p None is some = absurd cc
granted_time d t p (Some g) is some =
    let parts = and_parts (eqb p.owner g.owner) (same_name p.name g.stream) (find_passes (is_of p.owner p.name) (namespace_at d t).granted g is) in
    λ i. opened_at d (same_nat p.owner g.owner parts.0 i) (name_eq p.name g.stream parts.1 i)

read_time_by : (d : List Namespace) (t : ℕ) (p : StreamId) (b : Bool) → eqb p.owner t ≡ b → is_some (if b then own_found d t p.name else granted_found d t p.owner p.name) ≡ true
    → opened_in d p ≡ unwrap_or (option_map (λ s. s.opened) (if b then own_found d t p.name else granted_found d t p.owner p.name)) 0
read_time_by d t p true is some = ap (λ o. opened_at d o p.name) (same_nat p.owner t is) ∙ own_time t (stream_at d t p.name)
read_time_by d t p false is some = granted_time d t p _ refl some

pub opened_read : (d : List Namespace) (t : ℕ) (p : StreamId) → is_some (readable_to d t p) ≡ true → opened_in d p ≡ unwrap_or (option_map (λ s. s.opened) (readable_to d t p)) 0
opened_read d t p some = read_time_by d t p _ refl some

pub opened_seen : (d : List Namespace) (t : ℕ) (p : StreamId) (s : StreamView) → readable_to d t p ≡ Some s → opened_in d p ≡ s.opened
opened_seen d t p s is = opened_read d t p (ap is_some is) ∙ ap (λ o. unwrap_or (option_map (λ s. s.opened) o) 0) is

-- a stream that is found is one that is read
some_seen : (a b : StreamView) → Some a ≡ Some b → a ≡ b
some_seen a b e = cc

own_owner : (t : ℕ) (o : Option stream) (s : StreamView) → option_map (own_seen t) o ≡ Some s → t ≡ s.owner
own_owner t None s is = absurd cc
own_owner t (Some v) s is = ap (λ s. s.owner) (some_seen (own_seen t v) s is)

granted_owner : (d : List Namespace) (t : ℕ) (p : StreamId) (o : Option grant) (s : StreamView) → grant_of (namespace_at d t) p.owner p.name ≡ o → option_map (granted_seen d) o ≡ Some s → p.owner ≡ s.owner
granted_owner d t p None s is found = absurd cc
granted_owner d t p (Some g) s is found =
    let parts = and_parts (eqb p.owner g.owner) (same_name p.name g.stream) (find_passes (is_of p.owner p.name) (namespace_at d t).granted g is) in
    same_nat p.owner g.owner parts.0 ∙ ap (λ s. s.owner) (some_seen (granted_seen d g) s found)

owner_by : (d : List Namespace) (t : ℕ) (p : StreamId) (s : StreamView) (b : Bool) → eqb p.owner t ≡ b → (if b then own_found d t p.name else granted_found d t p.owner p.name) ≡ Some s → p.owner ≡ s.owner
owner_by d t p s true is found = same_nat p.owner t is ∙ own_owner t (stream_at d t p.name) s found
owner_by d t p s false is found = granted_owner d t p _ s refl found

-- a stream is read under its owner's index
pub owner_seen : (d : List Namespace) (t : ℕ) (p : StreamId) (s : StreamView) → readable_to d t p ≡ Some s → p.owner ≡ s.owner
owner_seen d t p s is = owner_by d t p s _ refl is

owner_readable : (d : List Namespace) (t : ℕ) (o : Option ℕ) (name : List ℕ) (s : StreamView) → found_of d t o name ≡ Some s → readable_to d t (stream_id_of s.owner name) ≡ Some s
owner_readable d t None name s is = absurd cc
owner_readable d t (Some index) name s is = subst (λ (o : ℕ). readable_to d t (stream_id_of o name) ≡ Some s) (owner_seen d t (stream_id_of index name) s is) is

pub found_readable : (d : List Namespace) (t : ℕ) (owner : Option (List ℕ)) (name : List ℕ) (s : StreamView) → found_by d t owner name ≡ Some s → readable_to d t (stream_id_of s.owner name) ≡ Some s
found_readable d t owner name s is = owner_readable d t (owner_meant d t owner) name s is

-- another's stream that was not granted is not read
unread_by : (d : List Namespace) (o : Option grant) → is_some o ≡ false → option_map (granted_seen d) o ≡ None
unread_by d None none = refl
unread_by d (Some g) none = absurd cc

pub unread : (d : List Namespace) (t u : ℕ) (n : List ℕ) → eqb u t ≡ false → has_grant d u n t ≡ false → readable_to d t (stream_id_of u n) ≡ None
unread d t u n other none = (λ i. if other i then own_found d t n else granted_found d t u n) ∙ unread_by d (grant_of (namespace_at d t) u n) none

-- WHAT A COMMAND LEAVES
-- what is refused to a tenant of the table is told so
pub is_done : (b : Bool) (r : Option StreamRefusal) → b ≡ true → is_none (if b then r else Some refused.UnknownTenant) ≡ is_accepted (done_unless r)
is_done true None here = refl
is_done true (Some x) here = refl
is_done false r here = absurd cc

done_if : (b : Bool) (r : Option StreamRefusal) (d d' : List Namespace) → b ≡ false → (if is_none (if b then r else Some refused.UnknownTenant) then d' else d) ≡ d
done_if true r d d' absent = absurd cc
done_if false r d d' absent = refl

-- a command of one that is not in the table changes nothing
pub directory_absent : (d : List Namespace) (u : ℕ) → has_tenant d u ≡ false → (c : Command) → directory_after d u c ≡ d
directory_absent d u absent (Stream name columns) = done_if (has_tenant d u) _ d _ absent
directory_absent d u absent (Grant n to columns) = done_if (has_tenant d u) _ d _ absent
directory_absent d u absent (Revoke n to) = done_if (has_tenant d u) _ d _ absent
directory_absent d u absent (Put n at row) = done_if (has_tenant d u) _ d _ absent
directory_absent d u absent (Beat n at) = done_if (has_tenant d u) _ d _ absent
directory_absent d u absent (Query name text) = refl
directory_absent d u absent (Fetch name until) = refl
directory_absent d u absent (Ack name to) = refl
directory_absent d u absent (Drop name) = refl
directory_absent d u absent Lists = refl

length_if : (b : Bool) (d d' : List Namespace) → length d' ≡ length d → length (if b then d' else d) ≡ length d
length_if true d d' e = e
length_if false d d' e = refl

length_grant : (d : List Namespace) (g : grant) (o : Option ℕ) → length (grant_to d g o) ≡ length d
length_grant d g None = refl
length_grant d g (Some index) = length-set d index _

length_revoke : (d : List Namespace) (u : ℕ) (n : List ℕ) (o : Option ℕ) → length (revoke_from d u n o) ≡ length d
length_revoke d u n None = refl
length_revoke d u n (Some index) = length-set d index _

-- the directory keeps its length
pub namespaces_length : (d : List Namespace) (u : ℕ) (c : Command) → length (directory_after d u c) ≡ length d
namespaces_length d u (Stream name columns) = length_if _ d _ (length-set d u _)
namespaces_length d u (Grant n to columns) = length_if _ d _ (length_grant d (new_grant d u n columns) (tenant_named d u to))
namespaces_length d u (Revoke n to) = length_if _ d _ (length_revoke d u n (tenant_named d u to))
namespaces_length d u (Put n at row) = length_if _ d _ (length-set d u _)
namespaces_length d u (Beat n at) = length_if _ d _ (length-set d u _)
namespaces_length d u (Query name text) = refl
namespaces_length d u (Fetch name until) = refl
namespaces_length d u (Ack name to) = refl
namespaces_length d u (Drop name) = refl
namespaces_length d u Lists = refl

-- the tenant that is named is in the table
named_by : (d : List Namespace) (u : ℕ) (name : List ℕ) (index : ℕ) (b : Bool) → u < length d → (if b then Some u else position (λ h. same_name name h.name) d) ≡ Some index → index < length d
named_by d u name index true here is = let e : u ≡ index = cc in subst (λ (p : ℕ). p < length d) e here
named_by d u name index false here is = (position-Some (λ h. same_name name h.name) d index no_namespace is).0

pub named_within : (d : List Namespace) (u : ℕ) (name : List ℕ) (index : ℕ) → u < length d → tenant_named d u name ≡ Some index → index < length d
named_within d u name index here is = named_by d u name index (same_name name (namespace_at d u).name) here is

-- what an accepted command says
put_there : (o : Option stream) (at : ℕ) (row : List Value) → is_accepted (done_unless (put_refused o at row)) ≡ true → is_some o ≡ true
put_there None at row fine = absurd cc
put_there (Some s) at row fine = refl

beat_there : (o : Option stream) (at : ℕ) → is_accepted (done_unless (beat_refused o at)) ≡ true → is_some o ≡ true
beat_there None at fine = absurd cc
beat_there (Some s) at fine = refl

reader_parts : (same fine given : Bool) → is_accepted (done_unless (if same then Some
    refused.SelfGrant else if fine then (if given then Some refused.AlreadyGranted else None) else Some refused.BadGrantColumns)) ≡ true → same ≡ false
reader_parts true fine given h = absurd cc
reader_parts false fine given h = refl

-- an accepted grant is of a stream that is there
grant_parts : (d : List Namespace) (u : ℕ) (n : List ℕ) (columns : Option (List (List ℕ))) (to : List ℕ) (o : Option stream)
    → is_accepted (done_unless (grant_refused u o columns (has_grant d u n) (tenant_named d u to))) ≡ true
    → (v : stream) × (o ≡ Some v) × (is_accepted (done_unless (grantee_refused u v.schema columns (has_grant d u n) (tenant_named d u to))) ≡ true)
grant_parts d u n columns to None fine = absurd cc
grant_parts d u n columns to (Some v) fine = (v, refl, fine)

-- an accepted revoke is of another's grant
pub revoke_parts : (own : Bool) (r : Option StreamRefusal) → is_accepted (done_unless (if own then r else Some refused.UnknownStream)) ≡ true → is_accepted (done_unless r) ≡ true
revoke_parts true r fine = fine
revoke_parts false r fine = absurd cc

pub loser_parts : (same given : Bool) → is_accepted (done_unless (if same then Some refused.NotGranted else (if given then None else Some refused.NotGranted))) ≡ true → same ≡ false
loser_parts true given h = absurd cc
loser_parts false given h = refl

-- the times are those of before
seen_same : (d d' : List Namespace) → ((o : ℕ) (m : List ℕ) → opened_at d' o m ≡ opened_at d o m) → (gs : List grant) → map (grant_seen d') gs ≡ map (grant_seen d) gs
seen_same d d' same gs = λ i. map (λ g. record { name = g.stream; item = record { owner = g.owner; schema = g.schema; named = g.named; opened = same g.owner g.stream i } }) gs

others_push : (t : ℕ) (gs : List grant) (g : grant) → eqb g.owner t ≡ false → AreOthers t gs → AreOthers t (gs ++ g ∷ [])
others_push t [] g far h = (far, h)
others_push t (x ∷ gs) g far h = (h.0, others_push t gs g far h.1)

-- without the grants of a stream
others_left : (t : ℕ) (q : grant → Bool) (gs : List grant) → AreOthers t gs → AreOthers t (filter q gs)
others_left t q [] h = tt
others_left t q (g ∷ gs) h = by (others_left t q gs h.1) (q g)
  where
    by : AreOthers t (filter q gs) → (b : Bool) → AreOthers t (if b then g ∷ filter q gs else filter q gs)
    by rest true = (h.0, rest)
    by rest false = rest

seen_left : (d : List Namespace) (u : ℕ) (n : List ℕ) (gs : List grant) → map (grant_seen d) (filter (λ g. not (is_of u n g)) gs) ≡ without_granted (stream_id_of u n) (map (grant_seen d) gs)
seen_left d u n [] = refl
seen_left d u n (g ∷ gs) = by (seen_left d u n gs) (is_of u n g)
  where
    by : map (grant_seen d) (filter (λ g. not (is_of u n g)) gs) ≡ without_granted (stream_id_of u n) (map (grant_seen d) gs) → (b : Bool)
        → map (grant_seen d) (if not b then g ∷ filter (λ g. not (is_of u n g)) gs else filter (λ g. not (is_of u n g)) gs)
        ≡ (if not b then grant_seen d g ∷ without_granted (stream_id_of u n) (map (grant_seen d) gs) else without_granted (stream_id_of u n) (map (grant_seen d) gs))
    by rest true = rest
    by rest false = ap (λ l. grant_seen d g ∷ l) rest

-- what is given, without one
given_left : (p q : StreamId) (gs : List StreamId) → list_any (λ g. same_stream_id p g) (filter (λ g. not (same_stream_id q g)) gs) ≡ (if same_stream_id p q then false else list_any (λ g. same_stream_id p g) gs)
given_left p q [] = by (same_stream_id p q)
  where
    by : (b : Bool) → false ≡ (if b then false else false)
    by true = refl
    by false = refl
given_left p q (g ∷ gs) = by (given_left p q gs) (same_stream_id q g) (same_stream_id p g) (same_stream_id p q) refl refl refl
  where
    by : list_any (λ g. same_stream_id p g) (filter (λ g. not (same_stream_id q g)) gs) ≡ (if same_stream_id p q then false else list_any (λ g. same_stream_id p g) gs)
        → (b c e : Bool) → same_stream_id q g ≡ b → same_stream_id p g ≡ c → same_stream_id p q ≡ e
        → list_any (λ g. same_stream_id p g) (if not b then g ∷ filter (λ g. not (same_stream_id q g)) gs else filter (λ g. not (same_stream_id q g)) gs)
        ≡ (if e then false else (c || list_any (λ g. same_stream_id p g) gs))
    by rest true c true bs cs es = rest ∙ (λ i. if es i then false else list_any (λ g. same_stream_id p g) gs)
    by rest true true false bs cs es = absurd (let h : true ≡ false = sym cs ∙ sym (ap (same_stream_id p) (stream_id_eq q g bs)) ∙ es in cc)
    by rest true false false bs cs es = rest ∙ (λ i. if es i then false else list_any (λ g. same_stream_id p g) gs)
    by rest false c false bs cs es = (λ i. cs i || (rest ∙ (λ i. if es i then false else list_any (λ g. same_stream_id p g) gs)) i)
    by rest false true true bs cs es = absurd (let h : true ≡ false = sym cs ∙ ap (λ s. same_stream_id s g) (stream_id_eq p q es) ∙ bs in cc)
    by rest false false true bs cs es = (λ i. cs i || (rest ∙ (λ i. if es i then false else list_any (λ g. same_stream_id p g) gs)) i)

-- what is granted, without one
granted_left_by : (d : List Namespace) (index u : ℕ) (n : List ℕ) (r o : ℕ) (m : List ℕ) → index < length d → (b : Bool) → eqb r index ≡ b
    → is_some (grant_of (namespace_at (change_namespace (without_grant u n) d index) r) o m) ≡ (if b && (eqb o u && same_name m n) then false else is_some (grant_of (namespace_at d r) o m))
granted_left_by d index u n r o m lt true is =
    subst (λ (r : ℕ). is_some (grant_of (namespace_at (change_namespace (without_grant u n) d index) r) o m)
    ≡ (if eqb o u && same_name m n then false else is_some (grant_of (namespace_at d r) o m))) (sym (same_nat r index is))
    (ap (λ h. is_some (grant_of h o m)) (namespace_same d index _ lt) ∙ ap is_some (left u o n m (namespace_at d index)) ∙ out (eqb o u && same_name m n))
  where
    out : (b : Bool) → is_some (if b then None else grant_of (namespace_at d index) o m) ≡ (if b then false else is_some (grant_of (namespace_at d index) o m))
    out true = refl
    out false = refl
granted_left_by d index u n r o m lt false is = ap (λ h. is_some (grant_of h o m)) (namespace_other d index r _ is)

pub granted_left : (d : List Namespace) (index u : ℕ) (n : List ℕ) (r o : ℕ) (m : List ℕ) → index < length d
    → is_some (grant_of (namespace_at (change_namespace (without_grant u n) d index) r) o m) ≡ (if eqb r index && (eqb o u && same_name m n) then false else is_some (grant_of (namespace_at d r) o m))
granted_left d index u n r o m lt = granted_left_by d index u n r o m lt _ refl

pub opened_revoke : (d : List Namespace) (index u : ℕ) (n : List ℕ) (o : ℕ) (m : List ℕ) → opened_at (change_namespace (without_grant u n) d index) o m ≡ opened_at d o m
opened_revoke d index u n o m = part_kept (λ h. unwrap_or (option_map (λ s. s.clock) (find_named h.streams m)) 0) d index (without_grant u n (namespace_at d index)) refl o

-- both sides ask the same
choose : (t : ℕ) (b c : Bool) → b ≡ c → (d d' : List Namespace) (k k' : SoloState) → (c ≡ true → TiedNamespaces t d k) → TiedNamespaces t d' k' → TiedNamespaces t (if b then d else d') (if c then k else k')
choose t true true e d d' k k' then_it else_it = then_it refl
choose t true false e d d' k k' then_it else_it = absurd cc
choose t false true e d d' k k' then_it else_it = absurd cc
choose t false false e d d' k k' then_it else_it = else_it

either : (t : ℕ) (b : Bool) (d : List Namespace) (k k' : SoloState) → TiedNamespaces t d k → TiedNamespaces t d k' → TiedNamespaces t d (if b then k else k')
either t true d k k' h h' = h
either t false d k k' h h' = h'

-- ONE OF THE TENANT'S OWN
module _ (language : Language) (t : ℕ) (d : List Namespace) (k : SoloState) (tied : TiedNamespaces t d k) (here : t < length d) where
  -- its streams change
  own_streams : (h : Namespace) (ss : List (Named stream)) → h.name ≡ (namespace_at d t).name → h.quotas ≡ (namespace_at d t).quotas → h.granted ≡ (namespace_at d t).granted → h.streams ≡ ss
      → map (grant_seen (set d t h)) (namespace_at d t).granted ≡ map (grant_seen d) (namespace_at d t).granted → TiedNamespaces t (set d t h) (record k { streams = ss })
  own_streams h ss name quotas granted streams seen = record {
    names = map_set (λ h. h.name) d t no_namespace h name ∙ tied.names;
    quotas = part_kept (λ h. h.quotas) d t h quotas t ∙ tied.quotas;
    streams = ap (λ h. h.streams) (namespace_same d t h here) ∙ streams;
    readable = ap (map (grant_seen (set d t h))) (part_kept (λ h. h.granted) d t h granted t) ∙ seen ∙ tied.readable;
    apart = subst (AreOthers t) (sym (part_kept (λ h. h.granted) d t h granted t)) tied.apart;
    given = λ index name. ap (λ gs. is_some (find (is_of t name) gs)) (part_kept (λ h. h.granted) d t h granted index) ∙ tied.given index name;
  }

  own_make : (name : List ℕ) (schema : List Column) → TiedNamespaces t (change_namespace (with_stream name schema) d t)
      (record k { streams = k.streams ++ record { name = name; item = record { schema = schema; clock = 0 } } ∷ [] })
  own_make name schema =
      own_streams (with_stream name schema (namespace_at d t)) _ refl refl refl (ap (λ ss. ss ++ record { name = name; item = record { schema = schema; clock = 0 } } ∷ []) tied.streams)
      (seen_same d _ (opened_make d t name schema) (namespace_at d t).granted)

  -- the time of a stream of its own is no time of another's
  seen_far : (n : List ℕ) (at : ℕ) → is_some (stream_at d t n) ≡ true → (gs : List grant) → AreOthers t gs → map (grant_seen (change_namespace (with_time n at) d t)) gs ≡ map (grant_seen d) gs
  seen_far n at there [] h = refl
  seen_far n at there (g ∷ gs) h =
      let far = far_key (stream_id_of t n) (stream_id_of g.owner g.stream) (turned g.owner t false h.0) in
      λ i. record {
        name = g.stream;
        item = record {
          owner = g.owner;
          schema = g.schema;
          named = g.named;
          opened =
              (opened_time d t n at here there g.owner g.stream ∙ (λ i. if far i then at else opened_at d g.owner g.stream)) i;
        };
      } ∷ seen_far n at there gs h.1 i

  own_time_on : (n : List ℕ) (at : ℕ) → is_some (stream_at d t n) ≡ true → TiedNamespaces t (change_namespace (with_time n at) d t) (record k { streams = change_named (opens at) n k.streams })
  own_time_on n at there =
      own_streams (with_time n at (namespace_at d t)) _ refl refl refl (ap (change_named (opens at) n) tied.streams) (seen_far n at there (namespace_at d t).granted tied.apart)

  -- a grant of its own
  own_given : (n : List ℕ) (columns : Option (List (List ℕ))) (index : ℕ) → index < length d → (r : ℕ) (m : List ℕ)
      → is_some (grant_of (namespace_at (change_namespace (with_grant (new_grant d t n columns)) d index) r) t m) ≡ is_given (record k { given = k.given ++ stream_id_of index n ∷ [] }) m r
  own_given n columns index lt r m =
      granted_push d index (new_grant d t n columns) r t m lt
      ∙ (λ i. tied.given r m i || (eqb r index && (nat_same t i && same_name m n)))
      ∙ sym (any_push (λ g. same_stream_id (stream_id_of r m) g) k.given (stream_id_of index n))

  own_grant_at : (n : List ℕ) (columns : Option (List (List ℕ))) (index : ℕ) → index < length d → eqb index t ≡ false
      → TiedNamespaces t (change_namespace (with_grant (new_grant d t n columns)) d index) (record k { given = k.given ++ stream_id_of index n ∷ [] })
  own_grant_at n columns index lt far =
      let h : Namespace = with_grant (new_grant d t n columns) (namespace_at d index) in
      let stays : namespace_at (set d index h) t ≡ namespace_at d t = namespace_other d index t h (turned index t false far) in
      record {
        names = map_set (λ h. h.name) d index no_namespace h refl ∙ tied.names;
        quotas = ap (λ h. h.quotas) stays ∙ tied.quotas;
        streams = ap (λ h. h.streams) stays ∙ tied.streams;
        readable = ap (λ (x : Namespace). map (grant_seen (set d index h)) x.granted) stays ∙ seen_same d (set d index h) (opened_grant d index (new_grant d t n columns)) (namespace_at d t).granted ∙ tied.readable;
        apart = subst (λ (h : Namespace). AreOthers t h.granted) (sym stays) tied.apart;
        given = own_given n columns index lt;
      }

  own_grant : (n to : List ℕ) (schema : List Column) (columns : Option (List (List ℕ))) (o : Option ℕ) → tenant_named d t to ≡ o → is_accepted (done_unless (grantee_refused t schema columns (has_grant d t n) o)) ≡ true
      → TiedNamespaces t (grant_to d (new_grant d t n columns) o) (record k { given = with_given n o k.given })
  own_grant n to schema columns None is fine = absurd cc
  own_grant n to schema columns (Some index) is fine = own_grant_at n columns index (named_within d t to index here is) (reader_parts _ _ _ fine)

  -- one that it takes back
  own_untaken : (n : List ℕ) (index : ℕ) → index < length d → (r : ℕ) (m : List ℕ)
      → is_some (grant_of (namespace_at (change_namespace (without_grant t n) d index) r) t m) ≡ is_given (record k { given = without_given n (Some index) k.given }) m r
  own_untaken n index lt r m =
      granted_left d index t n r t m lt
      ∙ (λ i. if eqb r index && (nat_same t i && same_name m n) then false else tied.given r m i)
      ∙ sym (given_left (stream_id_of r m) (stream_id_of index n) k.given)

  own_revoke_at : (n : List ℕ) (index : ℕ) → index < length d → eqb index t ≡ false → TiedNamespaces t (change_namespace (without_grant t n) d index) (record k { given = without_given n (Some index) k.given })
  own_revoke_at n index lt far =
      let h : Namespace = without_grant t n (namespace_at d index) in
      let stays : namespace_at (set d index h) t ≡ namespace_at d t = namespace_other d index t h (turned index t false far) in
      record {
        names = map_set (λ h. h.name) d index no_namespace h refl ∙ tied.names;
        quotas = ap (λ h. h.quotas) stays ∙ tied.quotas;
        streams = ap (λ h. h.streams) stays ∙ tied.streams;
        readable = ap (λ (x : Namespace). map (grant_seen (set d index h)) x.granted) stays ∙ seen_same d (set d index h) (opened_revoke d index t n) (namespace_at d t).granted ∙ tied.readable;
        apart = subst (λ (h : Namespace). AreOthers t h.granted) (sym stays) tied.apart;
        given = own_untaken n index lt;
      }

  own_revoke : (n to : List ℕ) (o : Option ℕ) → tenant_named d t to ≡ o → is_accepted (done_unless (taken_refused t (has_grant d t n) o)) ≡ true
      → TiedNamespaces t (revoke_from d t n o) (record k { given = without_given n o k.given })
  own_revoke n to None is fine = absurd cc
  own_revoke n to (Some index) is fine = own_revoke_at n index (named_within d t to index here is) (loser_parts _ _ fine)

  -- the directory does what is told to be done
  own_by : (r : Option StreamRefusal) (c : Bool) → is_accepted (done_unless r) ≡ c → (d' : List Namespace) (k' : SoloState) → (c ≡ true → TiedNamespaces t d' k')
      → TiedNamespaces t (if is_none (if has_tenant d t then r else Some refused.UnknownTenant) then d' else d) (if c then k' else k)
  own_by r c same d' k' then_it = choose t _ c (is_done (has_tenant d t) r (in_place d t here) ∙ same) d' d k' k then_it tied

  pub own_namespaces : (c : Command) → TiedNamespaces t (directory_after d t c) (if is_accepted (own_meaning language t k c) then solo_done language t k c else k)
  own_namespaces (Stream name columns) = own_by _ _ (ap is_accepted (same_stream t d k tied name columns)) _ _ (λ fine. own_make name (unwrap_or (schema_of columns) []))
  own_namespaces (Grant n to columns) =
      let same = ap is_accepted (same_grant t d k tied n to columns) in
      own_by _ _ same _ _ (λ fine.
      let parts = grant_parts d t n columns to (stream_at d t n) (same ∙ fine) in
      subst (λ (o : Option ℕ). TiedNamespaces t (grant_to d (new_grant d t n columns) (tenant_named d t to)) (record k { given = with_given n o k.given }))
      (same_tenant t d k tied to) (own_grant n to parts.0.schema columns _ refl parts.2))
  own_namespaces (Revoke n to) =
      let same = ap is_accepted (same_revoke t d k tied n to) in
      own_by _ _ same _ _ (λ fine.
      subst (λ (o : Option ℕ). TiedNamespaces t (revoke_from d t n (tenant_named d t to)) (record k { given = without_given n o k.given })) (same_tenant t d k tied to)
      (own_revoke n to _ refl (revoke_parts _ _ (same ∙ fine))))
  own_namespaces (Put n at row) =
      let same = ap is_accepted (same_put t d k tied n at row) in
      own_by _ _ same _ _ (λ fine. requeried t _ (record k { streams = change_named (opens at) n k.streams }) (own_time_on n at (put_there _ at row (same ∙ fine))) _)
  own_namespaces (Beat n at) =
      let same = ap is_accepted (same_beat t d k tied n at) in
      own_by _ _ same _ _ (λ fine. own_time_on n (at + 1) (beat_there _ at (same ∙ fine)))
  own_namespaces (Query name text) = either t _ d _ k (requeried t d k tied _) tied
  own_namespaces (Fetch name until) = either t _ d k k tied tied
  own_namespaces (Ack name to) = either t _ d _ k (requeried t d k tied _) tied
  own_namespaces (Drop name) = either t _ d _ k (requeried t d k tied _) tied
  own_namespaces Lists = tied

-- ONE OF ANOTHER'S
module _ (language : Language) (t : ℕ) (d : List Namespace) (k : SoloState) (tied : TiedNamespaces t d k) (u : ℕ) (other : eqb u t ≡ false) (here : u < length d) where
  away : eqb t u ≡ false
  away = turned u t false other

  -- another's namespace changes, but for the streams that were granted to it
  other_namespace : (h : Namespace) → h.name ≡ (namespace_at d u).name → h.granted ≡ (namespace_at d u).granted → (gs : List (Named StreamView)) → map (grant_seen (set d u h)) (namespace_at d t).granted ≡ gs
      → TiedNamespaces t (set d u h) (record k { readable = gs })
  other_namespace h name granted gs seen =
      let stays : namespace_at (set d u h) t ≡ namespace_at d t = namespace_other d u t h away in
      record {
        names = map_set (λ h. h.name) d u no_namespace h name ∙ tied.names;
        quotas = ap (λ x. x.quotas) stays ∙ tied.quotas;
        streams = ap (λ x. x.streams) stays ∙ tied.streams;
        readable = ap (λ (x : Namespace). map (grant_seen (set d u h)) x.granted) stays ∙ seen;
        apart = subst (λ (x : Namespace). AreOthers t x.granted) (sym stays) tied.apart;
        given = λ index name. ap (λ gs. is_some (find (is_of t name) gs)) (part_kept (λ h. h.granted) d u h granted index) ∙ tied.given index name;
      }

  other_make : (name : List ℕ) (schema : List Column) → TiedNamespaces t (change_namespace (with_stream name schema) d u) k
  other_make name schema = other_namespace (with_stream name schema (namespace_at d u)) refl refl k.readable (seen_same d _ (opened_make d u name schema) (namespace_at d t).granted ∙ tied.readable)

  -- a stream's time goes on
  module _ (n : List ℕ) (at : ℕ) (there : is_some (stream_at d u n) ≡ true) where
    abbrev later : List Namespace
    later = change_namespace (with_time n at) d u

    seen_at : (g : grant) (b : Bool) → same_stream_id (stream_id_of u n) (stream_id_of g.owner g.stream) ≡ b
        → grant_seen later g ≡ record { name = g.stream; item = record { owner = g.owner; schema = g.schema; named = g.named; opened = (if b then at else opened_at d g.owner g.stream) } }
    seen_at g b is = λ i. record {
      name = g.stream;
      item = record {
        owner = g.owner;
        schema = g.schema;
        named = g.named;
        opened =
            (opened_time d u n at here there g.owner g.stream ∙ (λ i. if is i then at else opened_at d g.owner g.stream)) i;
      };
    }

    unseen_by : (gs : List grant) → is_some (find (is_of u n) gs) ≡ false → map (grant_seen later) gs ≡ map (grant_seen d) gs
    unseen_by [] none = refl
    unseen_by (g ∷ gs) none = by (unseen_by gs) (is_of u n g) refl none
      where
        by : (is_some (find (is_of u n) gs) ≡ false → map (grant_seen later) gs ≡ map (grant_seen d) gs) → (b : Bool) → is_of u n g ≡ b → is_some (if b then Some g else find (is_of u n) gs) ≡ false
            → grant_seen later g ∷ map (grant_seen later) gs ≡ grant_seen d g ∷ map (grant_seen d) gs
        by rest true is none = absurd cc
        by rest false is none = λ i. seen_at g false is i ∷ rest none i

    unseen_time : has_grant d u n t ≡ false → TiedNamespaces t later k
    unseen_time none = other_namespace (with_time n at (namespace_at d u)) refl refl k.readable (unseen_by (namespace_at d t).granted none ∙ tied.readable)

    opened_by : (g : grant) (b : Bool) → same_stream_id (stream_id_of u n) (stream_id_of g.owner g.stream) ≡ b
        → grant_seen later g ≡ (if b then record { name = g.stream; item = record { owner = g.owner; schema = g.schema; named = g.named; opened = at } } else grant_seen d g)
    opened_by g true is = seen_at g true is
    opened_by g false is = seen_at g false is

    seen_by : (gs : List grant) → map (grant_seen later) gs ≡ map (open_granted (stream_id_of u n) at) (map (grant_seen d) gs)
    seen_by [] = refl
    seen_by (g ∷ gs) = λ i. opened_by g _ refl i ∷ seen_by gs i

    seen_time : TiedNamespaces t later (record k { readable = map (open_granted (stream_id_of u n) at) k.readable })
    seen_time = other_namespace (with_time n at (namespace_at d u)) refl refl _ (seen_by (namespace_at d t).granted ∙ ap (map (open_granted (stream_id_of u n) at)) tied.readable)

  -- the tenant sees of the row the values in its columns
  other_put : (n : List ℕ) (x : Element) (shown : List Value) (b c : Bool) → is_accepted (reply_on_streams d u (put n x.at x.row)) ≡ b → has_grant d u n t ≡ c
      → TiedNamespaces t (if b then change_namespace (with_time n x.at) d u else d) (solo_from language t k (if b && c then Comes (stream_id_of u n) (record { at = x.at; row = shown }) ∷ [] else []))
  other_put n x shown false c fine read = tied
  other_put n x shown true false fine read = unseen_time n x.at (put_there _ x.at x.row fine) read
  other_put n x shown true true fine read = requeried t _ (record k { readable = map (open_granted (stream_id_of u n) x.at) k.readable }) (seen_time n x.at (put_there _ x.at x.row fine)) _

  other_beat : (n : List ℕ) (at : ℕ) (b c : Bool) → is_accepted (reply_on_streams d u (beat n at)) ≡ b → has_grant d u n t ≡ c
      → TiedNamespaces t (if b then change_namespace (with_time n (at + 1)) d u else d) (solo_from language t k (if b && c then Beats (stream_id_of u n) at ∷ [] else []))
  other_beat n at false c fine read = tied
  other_beat n at true false fine read = unseen_time n (at + 1) (beat_there _ at fine) read
  other_beat n at true true fine read = seen_time n (at + 1) (beat_there _ at fine)

  -- a grant of another's
  other_given : (n : List ℕ) (columns : Option (List (List ℕ))) (index : ℕ) → index < length d → (r : ℕ) (m : List ℕ)
      → is_some (grant_of (namespace_at (change_namespace (with_grant (new_grant d u n columns)) d index) r) t m) ≡ is_given k m r
  other_given n columns index lt r m =
      granted_push d index (new_grant d u n columns) r t m lt ∙ (λ i. tied.given r m i || (eqb r index && (away i && same_name m n)))
      ∙ ap (λ b. (is_given k m r) || b) (and_none (eqb r index)) ∙ or_none (is_given k m r)

  granted_at : (n : List ℕ) (columns : Option (List (List ℕ))) (index : ℕ) → index < length d → (gs : List (Named StreamView))
      → map (grant_seen d) (namespace_at (change_namespace (with_grant (new_grant d u n columns)) d index) t).granted ≡ gs
      → AreOthers t (namespace_at (change_namespace (with_grant (new_grant d u n columns)) d index) t).granted
      → TiedNamespaces t (change_namespace (with_grant (new_grant d u n columns)) d index) (record k { readable = gs })
  granted_at n columns index lt gs seen apart =
      let h : Namespace = with_grant (new_grant d u n columns) (namespace_at d index) in
      record {
        names = map_set (λ h. h.name) d index no_namespace h refl ∙ tied.names;
        quotas = part_kept (λ h. h.quotas) d index h refl t ∙ tied.quotas;
        streams = part_kept (λ h. h.streams) d index h refl t ∙ tied.streams;
        readable = seen_same d (set d index h) (opened_grant d index (new_grant d u n columns)) (namespace_at (set d index h) t).granted ∙ seen;
        apart = apart;
        given = other_given n columns index lt;
      }

  appears_by : (n : List ℕ) (columns : Option (List (List ℕ))) (index : ℕ) → index < length d → index ≡ t → (o : Option stream) → stream_at d u n ≡ o → is_some o ≡ true
      → TiedNamespaces t (change_namespace (with_grant (new_grant d u n columns)) d index) (solo_from language t k (appears u n columns o))
  appears_by n columns index lt same None is there = absurd cc
  appears_by n columns index lt same (Some v) is there =
      let g : grant = new_grant d u n columns in
      let more : (namespace_at (change_namespace (with_grant g) d index) t).granted ≡ (namespace_at d t).granted ++ g ∷ [] =
      subst (λ (p : ℕ). (namespace_at (change_namespace (with_grant g) d index) p).granted ≡ (namespace_at d p).granted ++ g ∷ []) same (ap (λ h. h.granted) (namespace_same d index _ lt)) in
      granted_at n columns index lt _
      (ap (map (grant_seen d)) more ∙ map_push (grant_seen d) (namespace_at d t).granted g
      ∙ (λ i. tied.readable i ++ record {
        name = n;
        item = record {
          owner = u;
          schema = projected (unwrap_or (option_map (λ s. s.schema) (is i)) []) (shown_projection (unwrap_or (option_map (λ s. s.schema) (is i)) []) columns);
          named = is_some columns;
          opened = unwrap_or (option_map (λ s. s.clock) (is i)) 0;
        };
      } ∷ []))
      (subst (AreOthers t) (sym more) (others_push t (namespace_at d t).granted g other tied.apart))

  grant_by : (n : List ℕ) (columns : Option (List (List ℕ))) (index : ℕ) → index < length d → is_some (stream_at d u n) ≡ true → (c : Bool) → (index == t) ≡ c
      → TiedNamespaces t (change_namespace (with_grant (new_grant d u n columns)) d index) (solo_from language t k (if c then appears u n columns (stream_at d u n) else []))
  grant_by n columns index lt there true same = appears_by n columns index lt (same_nat index t same) (stream_at d u n) refl there
  grant_by n columns index lt there false far =
      let stays : (namespace_at (change_namespace (with_grant (new_grant d u n columns)) d index) t).granted ≡ (namespace_at d t).granted = ap (λ h. h.granted) (namespace_other d index t _ (turned index t false far)) in
      granted_at n columns index lt k.readable (ap (map (grant_seen d)) stays ∙ tied.readable) (subst (AreOthers t) (sym stays) tied.apart)

  grant_named : (n to : List ℕ) (schema : List Column) (columns : Option (List (List ℕ))) (o : Option ℕ) → is_some (stream_at d u n) ≡ true → tenant_named d u to ≡ o
      → is_accepted (done_unless (grantee_refused u schema columns (has_grant d u n) o)) ≡ true
      → TiedNamespaces t (grant_to d (new_grant d u n columns) o) (solo_from language t k (if is_tenant t o then appears u n columns (stream_at d u n) else []))
  grant_named n to schema columns None there is fine = absurd cc
  grant_named n to schema columns (Some index) there is fine = grant_by n columns index (named_within d u to index here is) there _ refl

  other_grant : (n to : List ℕ) (columns : Option (List (List ℕ))) (b : Bool) → is_accepted (done_unless (grant_refused u (stream_at d u n) columns (has_grant d u n) (tenant_named d u to))) ≡ b
      → TiedNamespaces t (if b then grant_to d (new_grant d u n columns) (tenant_named d u to) else d)
      (solo_from language t k (if b && is_tenant t (tenant_named d u to) then appears u n columns (stream_at d u n) else []))
  other_grant n to columns false fine = tied
  other_grant n to columns true fine =
      let parts = grant_parts d u n columns to (stream_at d u n) fine in
      grant_named n to parts.0.schema columns (tenant_named d u to) (ap is_some parts.1) refl parts.2

  -- a grant that another takes back
  other_untaken : (n : List ℕ) (index : ℕ) → index < length d → (r : ℕ) (m : List ℕ) → is_some (grant_of (namespace_at (change_namespace (without_grant u n) d index) r) t m) ≡ is_given k m r
  other_untaken n index lt r m =
      granted_left d index u n r t m lt
      ∙ (λ i. if eqb r index && (away i && same_name m n) then false else is_some (grant_of (namespace_at d r) t m))
      ∙ (λ i. if and_none (eqb r index) i then false else tied.given r m i)

  revoked_at : (n : List ℕ) (index : ℕ) → index < length d → (gs : List (Named StreamView)) → map (grant_seen d) (namespace_at (change_namespace (without_grant u n) d index) t).granted ≡ gs
      → AreOthers t (namespace_at (change_namespace (without_grant u n) d index) t).granted → TiedNamespaces t (change_namespace (without_grant u n) d index) (record k { readable = gs })
  revoked_at n index lt gs seen apart =
      let h : Namespace = without_grant u n (namespace_at d index) in
      record {
        names = map_set (λ h. h.name) d index no_namespace h refl ∙ tied.names;
        quotas = part_kept (λ h. h.quotas) d index h refl t ∙ tied.quotas;
        streams = part_kept (λ h. h.streams) d index h refl t ∙ tied.streams;
        readable = seen_same d (set d index h) (opened_revoke d index u n) (namespace_at (set d index h) t).granted ∙ seen;
        apart = apart;
        given = other_untaken n index lt;
      }

  revoke_by : (n : List ℕ) (index : ℕ) → index < length d → (c : Bool) → (index == t) ≡ c
      → TiedNamespaces t (change_namespace (without_grant u n) d index) (solo_from language t k (if c then Gone (stream_id_of u n) ∷ [] else []))
  revoke_by n index lt true same =
      let less : (namespace_at (change_namespace (without_grant u n) d index) t).granted ≡ filter (λ g. not (is_of u n g)) (namespace_at d t).granted =
      subst (λ (p : ℕ). (namespace_at (change_namespace (without_grant u n) d index) p).granted ≡ filter (λ g. not (is_of u n g)) (namespace_at d p).granted)
      (same_nat index t same) (ap (λ h. h.granted) (namespace_same d index _ lt)) in
      requeried t _ (record k { readable = without_granted (stream_id_of u n) k.readable })
      (revoked_at n index lt _ (ap (map (grant_seen d)) less ∙ seen_left d u n (namespace_at d t).granted ∙ ap (without_granted (stream_id_of u n)) tied.readable)
      (subst (AreOthers t) (sym less) (others_left t _ (namespace_at d t).granted tied.apart)))
      _
  revoke_by n index lt false far =
      let stays : (namespace_at (change_namespace (without_grant u n) d index) t).granted ≡ (namespace_at d t).granted = ap (λ h. h.granted) (namespace_other d index t _ (turned index t false far)) in
      revoked_at n index lt k.readable (ap (map (grant_seen d)) stays ∙ tied.readable) (subst (AreOthers t) (sym stays) tied.apart)

  revoke_named : (n to : List ℕ) (o : Option ℕ) → tenant_named d u to ≡ o → is_accepted (done_unless (taken_refused u (has_grant d u n) o)) ≡ true
      → TiedNamespaces t (revoke_from d u n o) (solo_from language t k (if is_tenant t o then Gone (stream_id_of u n) ∷ [] else []))
  revoke_named n to None is fine = absurd cc
  revoke_named n to (Some index) is fine = revoke_by n index (named_within d u to index here is) _ refl

  other_revoke : (n to : List ℕ) (b : Bool) → is_accepted (reply_on_streams d u (revoke n to)) ≡ b
      → TiedNamespaces t (if b then revoke_from d u n (tenant_named d u to) else d) (solo_from language t k (if b && is_tenant t (tenant_named d u to) then Gone (stream_id_of u n) ∷ [] else []))
  other_revoke n to false fine = tied
  other_revoke n to true fine = revoke_named n to (tenant_named d u to) refl (revoke_parts _ _ fine)

  -- the directory does what is told to be done
  other_by : (r : Option StreamRefusal) (d' : List Namespace) (k' : SoloState) → TiedNamespaces t (if is_accepted (done_unless r) then d' else d) k'
      → TiedNamespaces t (if is_none (if has_tenant d u then r else Some refused.UnknownTenant) then d' else d) k'
  other_by r d' k' h = subst (λ (b : Bool). TiedNamespaces t (if b then d' else d) k') (sym (is_done (has_tenant d u) r (in_place d u here))) h

  made_by : (name : List ℕ) (schema : List Column) (b : Bool) → TiedNamespaces t (if b then change_namespace (with_stream name schema) d u else d) k
  made_by name schema true = other_make name schema
  made_by name schema false = tied

  pub other_namespaces : (c : Command) → TiedNamespaces t (directory_after d u c) (solo_from language t k (seen_of_other t d u c))
  other_namespaces (Stream name columns) = other_by _ _ _ (made_by name (unwrap_or (schema_of columns) []) _)
  other_namespaces (Grant n to columns) = other_by _ _ _ (other_grant n to columns _ refl)
  other_namespaces (Revoke n to) = other_by _ _ _ (other_revoke n to _ refl)
  other_namespaces (Put n at row) = other_by _ _ _ (other_put n (record { at = at; row = row }) _ _ _ refl refl)
  other_namespaces (Beat n at) = other_by _ _ _ (other_beat n at _ _ refl refl)
  other_namespaces (Query name text) = tied
  other_namespaces (Fetch name until) = tied
  other_namespaces (Ack name to) = tied
  other_namespaces (Drop name) = tied
  other_namespaces Lists = tied
