-- What the quotas bound, after any commands.
use Rattle.std.proofs.Common.{◌≡◌, ◌⊎◌, inl, inr, ℕ, zero, suc, ◌+◌, ◌≤◌, ◌<◌, Bool, true, false, List, [], ◌∷◌, ◌++◌, map, length, take, max, get_or, set, refl, ap, subst, ◌∙◌, sym, arith}
use Rattle.std.specs.Prelude.{Option, Some, None, option_map, unwrap_or, is_none, is_some, nat_lt, Result, Ok, Err, if◌then◌else◌}
use Rattle.std.specs.List.{AllByRecursion}
use Rattle.std.proofs.lemmas.Bool.Decides.{nat_tests}
use Rattle.std.proofs.lemmas.List.{length-append, length-map, length-take, length-drop}
use Rattle.cql_value.specs.Element.{Element}
use Rattle.cql_value.specs.declared.schema.Column.{Column}
use Rattle.cql_tenants.specs.declared.stream.Stream.{Stream as stream}
use Rattle.cql_tenants.specs.declared.stream_refusal.StreamRefusal.{StreamRefusal}
use Rattle.cql_tenants.specs.declared.stream_refusal.StreamRefusal.TheVariants as refusal
use Rattle.cql_value.specs.Name.{is_name}
use Rattle.cql_tenants.specs.Named.{Named, same_name, find_named, change_named, remove_named, each}
use Rattle.cql_tenants.specs.Taking.{opens}
use Rattle.cql_window.specs.declared.window.Window.{Window}
use Rattle.cql_window.specs.declared.window.Window.TheVariants.{Range, Rows, All as all, Parts}
use Rattle.cql_window.specs.Window.{front_len, content, beyond}
use Rattle.cql_window.proofs.Ends.{front_le}
use Rattle.cql_window.proofs.Laws.{kept_le}
use Rattle.cql_store.specs.Held.{Held, opened, fed, advanced, need_of, need}
use Rattle.cql_syntax.specs.declared.syntax.Query.{Query as Written}
use Rattle.cql_syntax.specs.Tokens.{tokens_of}
use Rattle.cql_syntax.specs.Lex.{lexed}
use Rattle.cql_text.specs.Read.{Is, read_of, ReadLaw}
use Rattle.cql_plan.specs.declared.plan.Planned.{Planned}
use Rattle.cql_plan.specs.Plan.{IsFew}
use Rattle.cql_plan.specs.Sources.{SchemaLookup}
use Rattle.cql_plan.proofs.Few.{planned_few}
use Rattle.cql_tenants.specs.Granted.{Grant as grant}
use Rattle.cql_tenants.specs.declared.namespace.Namespace.{Namespace}
use Rattle.cql_tenants.specs.declared.tenants.Quotas.{Quotas}
use Rattle.cql_tenants.specs.declared.tenants.Tenant.{Tenant}
use Rattle.cql_tenants.specs.Namespace.{no_namespace, nothing_made, has_tenant, namespace_at, change_namespace, tenant_named, stream_at, without_grant}
use Rattle.cql_tenants.specs.Directory.{StreamCommand, refused, done, streams_after, with_stream, with_time, with_grant, new_grant, grant_to, revoke_from, Make as make, Share as share}
use Rattle.cql_tenants.specs.Directory.{Revoke as revoke, Put as put, Beat as beat}
use Rattle.cql_core.specs.declared.command.Command.{Command}
use Rattle.cql_core.specs.declared.command.Command.TheVariants.{Stream, Grant, Revoke, Put, Beat, Query, Fetch, Ack, Drop, List as Lists}
use Rattle.cql_core.specs.declared.refusal.Refusal.{Refusal}
use Rattle.cql_core.specs.StreamId.{StreamId, stream_id_of, same_stream_id, projection_in}
use Rattle.cql_core.specs.Bound.{StreamLookup, BoundInput, BoundPlan, bound_input, bound}
use Rattle.cql_core.specs.Columns.{schema_of}
use Rattle.cql_core.specs.Checks.{check_query, check_drop}
use Rattle.cql_core.specs.ReplyModel.{is_accepted}
use Rattle.cql_core.specs.Directory.{directory_after, reply_on_streams}
use Rattle.cql_core.specs.Language.{Language, bound_or}
use Rattle.cql_core.specs.Lookup.{found_by, columns_at}
use Rattle.cql_core.specs.Machine.{Stub, Live, State, opening, queries_at, new_stub, new_live, plan_for, limit_in, reply_to_query, with_live, put_on, put_live, ack_stub, ack_live, stubs_left}
use Rattle.cql_core.specs.Machine.{reply_to_ack, is_over, revoke_live, queries_revoked, queries_after, state_after}
use Rattle.cql_core.specs.Rows.{live_on, stubs_of, stubs_on, greatest_need}
use Rattle.cql_core.specs.Law.{state_from}
use Rattle.cql_core.specs.Cql.{cql, plan_of, planned_from}
use Rattle.cql_core.specs.WithinQuotas.{quotas_in, charged, IsChargedWithin, IsWithinHold, hold_for, greatest_hold, AreWithinQuotas, IsHeldWithinQuotasLaw}
use Rattle.cql_core.proofs.HeldRows.{number_of_rows}
use Rattle.cql_core.proofs.Languages.{planned_typed}
use Rattle.cql_core.proofs.Look.{length_each, get_map}
use Rattle.cql_core.proofs.Namespaces.{opening_streams}

-- ---- lists

-- what holds at each index holds there still where one is set to what it holds of
kept_at : {A : Type 0} (P : ℕ → A → Type 0) (none : A) (xs : List A) (u : ℕ) (x : A) → ((t : ℕ) → P t (get_or xs t none)) → P u x → (t : ℕ) → P t (get_or (set xs u x) t none)
kept_at P none [] u x h k t = h t
kept_at P none (y ∷ xs) zero x h k zero = k
kept_at P none (y ∷ xs) zero x h k (suc t) = h (suc t)
kept_at P none (y ∷ xs) (suc u) x h k zero = h zero
kept_at P none (y ∷ xs) (suc u) x h k (suc t) = kept_at (λ i. P (suc i)) none xs u x (λ i. h (suc i)) k t

-- and where each is changed so that it holds still
kept_in_all : {A : Type 0} (P : ℕ → A → Type 0) (none : A) (f : A → A) → ((t : ℕ) (x : A) → P t x → P t (f x)) → (xs : List A) → ((t : ℕ) → P t (get_or xs t none)) → (t : ℕ) → P t (get_or (map f xs) t none)
kept_in_all P none f keeps [] h t = h t
kept_in_all P none f keeps (x ∷ xs) h zero = keeps zero x (h zero)
kept_in_all P none f keeps (x ∷ xs) h (suc t) = kept_in_all (λ i. P (suc i)) none f (λ i. keeps (suc i)) xs (λ i. h (suc i)) t

all_mapped : {A B : Type 0} (P : A → Type 0) (Q : B → Type 0) (f : A → B) → ((x : A) → P x → Q (f x)) → (xs : List A) → AllByRecursion P xs → AllByRecursion Q (map f xs)
all_mapped P Q f keeps [] h = tt
all_mapped P Q f keeps (x ∷ xs) h = (keeps x h.0, all_mapped P Q f keeps xs h.1)

all_append : {A : Type 0} (P : A → Type 0) (xs ys : List A) → AllByRecursion P xs → AllByRecursion P ys → AllByRecursion P (xs ++ ys)
all_append P [] ys h k = k
all_append P (x ∷ xs) ys h k = (h.0, all_append P xs ys h.1 k)

length_push : {A : Type 0} (xs : List A) (x : A) → length (xs ++ x ∷ []) ≡ length xs + 1
length_push xs x = length-append xs (x ∷ [])

length_change : {A : Type 0} (f : A → A) (name : List ℕ) (xs : List (Named A)) → length (change_named f name xs) ≡ length xs
length_change f name [] = refl
length_change {A} f name (x ∷ xs) = by (length_change f name xs) (same_name name x.name)
  where
    by : length (change_named f name xs) ≡ length xs → (b : Bool) → length (if b then record x { item = f x.item } ∷ xs else x ∷ change_named f name xs) ≡ length (x ∷ xs)
    by rest true = refl
    by rest false = ap suc rest

length_remove : {A : Type 0} (xs : List (Named A)) (name : List ℕ) → length (remove_named xs name) ≤ length xs
length_remove [] name = omega arith
length_remove {A} (x ∷ xs) name = by (length_remove xs name) (same_name name x.name)
  where
    by : length (remove_named xs name) ≤ length xs → (b : Bool) → length (if b then xs else x ∷ remove_named xs name) ≤ length (x ∷ xs)
    by rest true = omega arith
    by rest false = omega (arith, rest)

-- ---- a stub

-- a later cursor adds nothing to what is charged
advanced_less : (w : Window) (to : ℕ) (settled xs : List Element) → length (content w to settled xs) + length (beyond w to xs) ≤ length settled + length xs
advanced_less w to settled xs =
    let f : ℕ = front_len w to xs in
    let small : length (content w to settled xs) ≤ length (settled ++ take f xs) = kept_le w to (settled ++ take f xs) in
    omega (arith, small, length-append settled (take f xs), length-take f xs, length-drop f xs, front_le w to xs)

module _ (quota : ℕ) where
  advanced_within : (to : ℕ) (h : Held) → IsChargedWithin quota h → IsChargedWithin quota (advanced to h)
  advanced_within to h within =
      let less : charged (advanced to h) ≤ charged h = advanced_less h.window to h.content h.unseen in
      record { hold = within.hold; most = omega (arith, less, within.most); none = λ over. (let none : charged h ≡ 0 = within.none over in omega (arith, less, none)) }

  fed_within : (x : Element) (h : Held) → IsChargedWithin quota h → IsChargedWithin quota (fed x h)
  fed_within x h within = by h.overrun (nat_lt (length h.content + length h.unseen) h.hold) refl refl
    where
      by : (over room : Bool) → h.overrun ≡ over → nat_lt (length h.content + length h.unseen) h.hold ≡ room
          → IsChargedWithin quota (if over then h else if room then record h { unseen = h.unseen ++ x ∷ [] } else record h { content = []; unseen = []; overrun = true })
      by true room is_over is_room = within
      by false true is_over is_room =
          let less : length h.content + length h.unseen < h.hold = grind (arith, nat_tests) in
          let quota_is : h.hold ≡ quota = within.hold in
          record { hold = within.hold; most = omega (arith, less, quota_is, length_push h.unseen x); none = λ over. absurd cc }
      by false false is_over is_room = record { hold = within.hold; most = omega arith; none = λ over. refl }

  put_within : (stream_id : StreamId) (x : Element) (stub : Stub) → IsChargedWithin quota stub.held → IsChargedWithin quota (put_on stream_id x stub).held
  put_within stream_id x stub within = by (same_stream_id stub.stream_id stream_id)
    where
      by : (b : Bool) → IsChargedWithin quota (if b then record stub { held = fed x stub.held } else stub).held
      by true = fed_within x stub.held within
      by false = within

  opened_within : (w : Window) (base : ℕ) → IsChargedWithin quota (opened w base quota)
  opened_within w base = record { hold = refl; most = omega arith; none = λ over. refl }

-- ---- a query

abbrev ChargedStub : ℕ → Stub → Type 0
ChargedStub quota stub = IsChargedWithin quota stub.held

abbrev HasAsMany : ℕ → Option (List Stub) → Type 0
HasAsMany n stubs = (stubs ≡ None) ⊎ (length (unwrap_or stubs []) ≡ n)

abbrev ChargedStubs : ℕ → Option (List Stub) → Type 0
ChargedStubs quota stubs = AllByRecursion (ChargedStub quota) (unwrap_or stubs [])

module _ (quota : ℕ) where
  changed_stubs : (f : Stub → Stub) → ((stub : Stub) → ChargedStub quota stub → ChargedStub quota (f stub)) → (n : ℕ) (stubs : Option (List Stub)) → HasAsMany n stubs → ChargedStubs quota stubs
      → HasAsMany n (option_map (map f) stubs) × ChargedStubs quota (option_map (map f) stubs)
  changed_stubs f keeps n None many within = (inl refl, tt)
  changed_stubs f keeps n (Some stubs) (inl e) within = absurd cc
  changed_stubs f keeps n (Some stubs) (inr e) within = (inr (length-map stubs f ∙ e), all_mapped (ChargedStub quota) (ChargedStub quota) f keeps stubs within)

  put_query : (stream_id : StreamId) (x : Element) (q : Live) → IsWithinHold quota q → IsWithinHold quota (put_live stream_id x q)
  put_query stream_id x q within =
      let stubs = changed_stubs (put_on stream_id x) (put_within quota stream_id x) (length q.plan.plan.inputs) q.stubs within.stubs within.charges in
      record { few = within.few; stubs = stubs.0; charges = stubs.1 }

  ack_query : (to : ℕ) (q : Live) → IsWithinHold quota q → IsWithinHold quota (ack_live to q)
  ack_query to q within =
      let stubs = changed_stubs (ack_stub to) (λ stub. advanced_within quota to stub.held) (length q.plan.plan.inputs) q.stubs within.stubs within.charges in
      record { few = within.few; stubs = stubs.0; charges = stubs.1 }

  revoke_query : (stream_id : StreamId) (q : Live) → IsWithinHold quota q → IsWithinHold quota (revoke_live stream_id q)
  revoke_query stream_id q within = by (is_over stream_id q.plan)
    where
      by : (b : Bool) → IsWithinHold quota (if b then record q { stubs = None } else q)
      by true = record { few = within.few; stubs = inl refl; charges = tt }
      by false = within

  new_charges : (base : ℕ) (inputs : List BoundInput) → AllByRecursion (ChargedStub quota) (map (new_stub quota base) inputs)
  new_charges base [] = tt
  new_charges base (i ∷ is) = (opened_within quota i.window base, new_charges base is)

  new_query : (base : ℕ) (text : List ℕ) (plan : BoundPlan) → IsFew plan.plan → length plan.inputs ≡ length plan.plan.inputs → IsWithinHold quota (new_live quota base text plan)
  new_query base text plan few many = record { few = few; stubs = inr (length-map plan.inputs (new_stub quota base) ∙ many); charges = new_charges base plan.inputs }

-- ---- a tenant's queries

abbrev AreWithinHold : ℕ → List (Named Live) → Type 0
AreWithinHold quota qs = AllByRecursion (λ q. IsWithinHold quota q.item) qs

-- as many as the quotas have, each within the hold
pub record TenantWithin (quotas : Quotas) (qs : List (Named Live)) : Type 0 where
  pub count : length qs ≤ quotas.queries
  pub holds : AreWithinHold quotas.hold qs

each_within : (quota : ℕ) (f : Live → Live) → ((q : Live) → IsWithinHold quota q → IsWithinHold quota (f q)) → (qs : List (Named Live)) → AreWithinHold quota qs → AreWithinHold quota (each f qs)
each_within quota f keeps [] h = tt
each_within quota f keeps (q ∷ qs) h = (keeps q.item h.0, each_within quota f keeps qs h.1)

change_within : (quota : ℕ) (f : Live → Live) → ((q : Live) → IsWithinHold quota q → IsWithinHold quota (f q)) → (name : List ℕ) (qs : List (Named Live))
    → AreWithinHold quota qs → AreWithinHold quota (change_named f name qs)
change_within quota f keeps name [] h = tt
change_within quota f keeps name (q ∷ qs) h = by (change_within quota f keeps name qs h.1) (same_name name q.name)
  where
    by : AreWithinHold quota (change_named f name qs) → (b : Bool) → AreWithinHold quota (if b then record q { item = f q.item } ∷ qs else q ∷ change_named f name qs)
    by rest true = (keeps q.item h.0, h.1)
    by rest false = (h.0, rest)

remove_within : (quota : ℕ) (qs : List (Named Live)) (name : List ℕ) → AreWithinHold quota qs → AreWithinHold quota (remove_named qs name)
remove_within quota [] name h = tt
remove_within quota (q ∷ qs) name h = by (remove_within quota qs name h.1) (same_name name q.name)
  where
    by : AreWithinHold quota (remove_named qs name) → (b : Bool) → AreWithinHold quota (if b then qs else q ∷ remove_named qs name)
    by rest true = h.1
    by rest false = (h.0, rest)

module _ (quotas : Quotas) (qs : List (Named Live)) (within : TenantWithin quotas qs) where
  each_tenant : (f : Live → Live) → ((q : Live) → IsWithinHold quotas.hold q → IsWithinHold quotas.hold (f q)) → TenantWithin quotas (each f qs)
  each_tenant f keeps = record { count = omega (arith, length_each f qs, within.count); holds = each_within quotas.hold f keeps qs within.holds }

  change_tenant : (f : Live → Live) → ((q : Live) → IsWithinHold quotas.hold q → IsWithinHold quotas.hold (f q)) → (name : List ℕ) → TenantWithin quotas (change_named f name qs)
  change_tenant f keeps name = record { count = omega (arith, length_change f name qs, within.count); holds = change_within quotas.hold f keeps name qs within.holds }

  remove_tenant : (name : List ℕ) → TenantWithin quotas (remove_named qs name)
  remove_tenant name = record { count = omega (arith, length_remove qs name, within.count); holds = remove_within quotas.hold qs name within.holds }

  push_tenant : length qs < quotas.queries → (q : Named Live) → IsWithinHold quotas.hold q.item → TenantWithin quotas (qs ++ q ∷ [])
  push_tenant room q new = record { count = omega (arith, room, length_push qs q); holds = all_append (λ q. IsWithinHold quotas.hold q.item) qs (q ∷ []) within.holds (new, tt) }

-- ---- the namespaces

-- a tenant's quotas are the table's, and it has as many streams as they allow
pub record NamespaceWithin (allowed : Quotas) (h : Namespace) : Type 0 where
  pub quotas : h.quotas ≡ allowed
  pub streams : length h.streams ≤ allowed.streams

abbrev NamespacesWithin : List Tenant → List Namespace → Type 0
NamespacesWithin table d = (t : ℕ) → NamespaceWithin (quotas_in table t) (namespace_at d t)

-- why a stream isn't made, by what is asked first
abbrev unmade : (named bad there room : Bool) → Option StreamRefusal
unmade named bad there room = if named then (if bad then Some refusal.BadColumns else (if there then Some refusal.StreamExists else (if room then None else Some refusal.TooManyStreams))) else Some refusal.BadName

-- where a stream is made there is room for it
made_room : (here named bad there room : Bool) → is_none (if here then unmade named bad there room else Some refusal.UnknownTenant) ≡ true → room ≡ true
made_room false named bad there room h = absurd cc
made_room true false bad there room h = absurd cc
made_room true true true there room h = absurd cc
made_room true true false true room h = absurd cc
made_room true true false false false h = absurd cc
made_room true true false false true h = refl

module _ (table : List Tenant) (d : List Namespace) (within : NamespacesWithin table d) where
  changed : (u : ℕ) (h : Namespace) → NamespaceWithin (quotas_in table u) h → NamespacesWithin table (set d u h)
  changed u h new = kept_at (λ t h. NamespaceWithin (quotas_in table t) h) no_namespace d u h within new

  same_streams : (u : ℕ) (h : Namespace) → h.quotas ≡ (namespace_at d u).quotas → length h.streams ≡ length (namespace_at d u).streams → NamespacesWithin table (set d u h)
  same_streams u h quotas streams = changed u h (record { quotas = quotas ∙ (within u).quotas; streams = (let before = (within u).streams in omega (arith, streams, before)) })

  grant_within : (g : grant) (o : Option ℕ) → NamespacesWithin table (grant_to d g o)
  grant_within g None = within
  grant_within g (Some index) = same_streams index (with_grant g (namespace_at d index)) refl refl

  revoke_within : (u : ℕ) (name : List ℕ) (o : Option ℕ) → NamespacesWithin table (revoke_from d u name o)
  revoke_within u name None = within
  revoke_within u name (Some index) = same_streams index (without_grant u name (namespace_at d index)) refl refl

  time_within : (u : ℕ) (name : List ℕ) (at : ℕ) → NamespacesWithin table (change_namespace (with_time name at) d u)
  time_within u name at = same_streams u (with_time name at (namespace_at d u)) refl (length_change (opens at) name (namespace_at d u).streams)

  stream_within : (u : ℕ) (name : List ℕ) (schema : Option (List Column)) → is_none (refused d u (make name schema)) ≡ true → NamespacesWithin table (done d u (make name schema))
  stream_within u name schema none =
      let h : Namespace = namespace_at d u in
      let room : nat_lt (length h.streams) h.quotas.streams ≡ true = made_room (has_tenant d u) (is_name name) (is_none schema) (is_some (find_named h.streams name)) (nat_lt (length h.streams) h.quotas.streams) none in
      let less : length h.streams < h.quotas.streams = grind (arith, nat_tests) in
      let same : h.quotas.streams ≡ (quotas_in table u).streams = ap (λ q. q.streams) (within u).quotas in
      let made : Named stream = record { name = name; item = record { schema = unwrap_or schema []; clock = 0 } } in
      changed u (with_stream name (unwrap_or schema []) h) (record { quotas = (within u).quotas; streams = omega (arith, less, same, length_push h.streams made) })

  done_within : (u : ℕ) (command : StreamCommand) → is_none (refused d u command) ≡ true → NamespacesWithin table (done d u command)
  done_within u (make name schema) none = stream_within u name schema none
  done_within u (share name to columns) none = grant_within (new_grant d u name columns) (tenant_named d u to)
  done_within u (revoke name to) none = revoke_within u name (tenant_named d u to)
  done_within u (put name at row) none = time_within u name at
  done_within u (beat name at) none = time_within u name (at + 1)

  streams_within : (u : ℕ) (command : StreamCommand) → NamespacesWithin table (streams_after d u command)
  streams_within u command = by (is_none (refused d u command)) refl
    where
      by : (b : Bool) → is_none (refused d u command) ≡ b → NamespacesWithin table (if b then done d u command else d)
      by true none = done_within u command none
      by false some = within

  directory_within : (u : ℕ) (c : Command) → NamespacesWithin table (directory_after d u c)
  directory_within u (Stream name columns) = streams_within u (make name (schema_of columns))
  directory_within u (Grant name to columns) = streams_within u (share name to columns)
  directory_within u (Revoke name to) = streams_within u (revoke name to)
  directory_within u (Put name at row) = streams_within u (put name at row)
  directory_within u (Beat name at) = streams_within u (beat name at)
  directory_within u (Query name text) = within
  directory_within u (Fetch name until) = within
  directory_within u (Ack name to) = within
  directory_within u (Drop name) = within
  directory_within u Lists = within

-- ---- the queries

abbrev QueriesWithin : List Tenant → List (List (Named Live)) → Type 0
QueriesWithin table queries = (t : ℕ) → TenantWithin (quotas_in table t) (queries_at queries t)

-- where a query is registered there is room for it
has_room : (named : Bool) (bad : Option ℕ) (there room : Bool) (plan : Result BoundPlan Refusal) (base_of : BoundPlan → ℕ) → is_accepted (check_query named bad there room plan base_of) ≡ true → room ≡ true
has_room false bad there room plan base_of h = absurd cc
has_room true (Some at) there room plan base_of h = absurd cc
has_room true None true room plan base_of h = absurd cc
has_room true None false false plan base_of h = absurd cc
has_room true None false true plan base_of h = refl

-- each plan of the language has 1 to 6 inputs
abbrev HasFewInputs : Language → Type 0
HasFewInputs language = (readable : SchemaLookup) (text : List ℕ) (plan : Planned) → language.plan_of readable text ≡ Ok plan → IsFew plan

bound_few : (found : StreamLookup) (planned : Result Planned Refusal) (plan : BoundPlan) → ((p : Planned) → planned ≡ Ok p → IsFew p) → bound_or found planned ≡ Ok plan
    → IsFew plan.plan × (length plan.inputs ≡ length plan.plan.inputs)
bound_few found (Err error) plan few h = absurd cc
bound_few found (Ok p) plan few h =
    let same : bound found p ≡ plan = cc in
    subst (λ (plan : BoundPlan). IsFew plan.plan × (length plan.inputs ≡ length plan.plan.inputs)) same (few p refl, length-map p.inputs (bound_input found))

module _ (language : Language) (few : HasFewInputs language) (table : List Tenant) (s : State) (namespaces : NamespacesWithin table s.namespaces) (queries : QueriesWithin table s.queries) where
  one_changed : (u : ℕ) (qs : List (Named Live)) → TenantWithin (quotas_in table u) qs → QueriesWithin table (set s.queries u qs)
  one_changed u qs new = kept_at (λ t qs. TenantWithin (quotas_in table t) qs) [] s.queries u qs queries new

  put_queries : (stream_id : StreamId) (x : Element) → QueriesWithin table (map (each (put_live stream_id x)) s.queries)
  put_queries stream_id x =
      kept_in_all (λ t qs. TenantWithin (quotas_in table t) qs) [] (each (put_live stream_id x))
      (λ t qs within. each_tenant (quotas_in table t) qs within (put_live stream_id x) (put_query (quotas_in table t).hold stream_id x)) s.queries queries

  revoke_queries : (stream_id : StreamId) (o : Option ℕ) → QueriesWithin table (queries_revoked stream_id o s.queries)
  revoke_queries stream_id None = queries
  revoke_queries stream_id (Some index) = one_changed index _ (each_tenant (quotas_in table index) (queries_at s.queries index) (queries index) (revoke_live stream_id)
      (revoke_query (quotas_in table index).hold stream_id))

  new_tenant : (u : ℕ) (name text spelled : List ℕ) → length (queries_at s.queries u) < (quotas_in table u).queries → (planned : Result BoundPlan Refusal) → plan_for language s.namespaces u text ≡ planned
      → TenantWithin (quotas_in table u) (with_live (quotas_in table u).hold (limit_in s.namespaces) name spelled planned (queries_at s.queries u))
  new_tenant u name text spelled room (Err error) is = queries u
  new_tenant u name text spelled room (Ok plan) is =
      let found : StreamLookup = found_by s.namespaces u in
      let fits = bound_few found (language.plan_of (columns_at (projection_in s.namespaces u) found) text) plan (few (columns_at (projection_in s.namespaces u) found) text) is in
      push_tenant (quotas_in table u) (queries_at s.queries u) (queries u) room (record { name = name; item = new_live (quotas_in table u).hold (limit_in s.namespaces plan) spelled plan })
      (new_query (quotas_in table u).hold (limit_in s.namespaces plan) spelled plan fits.0 fits.1)

  new_queries : (u : ℕ) (name text : List ℕ) → is_accepted (reply_to_query language s u name text) ≡ true
      → QueriesWithin table (set s.queries u (with_live (namespace_at s.namespaces u).quotas.hold (limit_in s.namespaces) name (language.spelled text) (plan_for language s.namespaces u text) (queries_at s.queries u)))
  new_queries u name text accepted =
      let room : nat_lt (length (queries_at s.queries u)) (namespace_at s.namespaces u).quotas.queries ≡ true =
      has_room (is_name name) (language.bad_byte text) (is_some (find_named (queries_at s.queries u) name))
      (nat_lt (length (queries_at s.queries u)) (namespace_at s.namespaces u).quotas.queries) (plan_for language s.namespaces u text) (limit_in s.namespaces)
      accepted in
      let less : length (queries_at s.queries u) < (namespace_at s.namespaces u).quotas.queries = grind (arith, nat_tests) in
      let same : (namespace_at s.namespaces u).quotas ≡ quotas_in table u = (namespaces u).quotas in
      let new = new_tenant u name text (language.spelled text) (subst (λ (q : Quotas). length (queries_at s.queries u) < q.queries) same less) (plan_for language s.namespaces u text) refl in
      one_changed u _
      (subst (λ (q : Quotas). TenantWithin (quotas_in table u) (with_live q.hold (limit_in s.namespaces) name (language.spelled text) (plan_for language s.namespaces u text) (queries_at s.queries u))) (sym same) new)

  queries_within : (u : ℕ) (c : Command) → QueriesWithin table (queries_after language s u c)
  queries_within u (Stream name columns) = queries
  queries_within u (Grant name to columns) = queries
  queries_within u (Revoke name to) = by (is_accepted (reply_on_streams s.namespaces u (revoke name to)))
    where
      by : (b : Bool) → QueriesWithin table (if b then queries_revoked (stream_id_of u name) (tenant_named s.namespaces u to) s.queries else s.queries)
      by true = revoke_queries (stream_id_of u name) (tenant_named s.namespaces u to)
      by false = queries
  queries_within u (Put name at row) = by (is_accepted (reply_on_streams s.namespaces u (put name at row)))
    where
      by : (b : Bool) → QueriesWithin table (if b then map (each (put_live (stream_id_of u name) (record { at = at; row = row }))) s.queries else s.queries)
      by true = put_queries (stream_id_of u name) (record { at = at; row = row })
      by false = queries
  queries_within u (Beat name at) = queries
  queries_within u (Query name text) = by (is_accepted (reply_to_query language s u name text)) refl
    where
      by : (b : Bool) → is_accepted (reply_to_query language s u name text) ≡ b
          → QueriesWithin table (if b then set s.queries u (with_live (namespace_at s.namespaces u).quotas.hold (limit_in s.namespaces) name (language.spelled text)
          (plan_for language s.namespaces u text) (queries_at s.queries u)) else s.queries)
      by true accepted = new_queries u name text accepted
      by false accepted = queries
  queries_within u (Fetch name until) = queries
  queries_within u (Ack name to) = by (is_accepted (reply_to_ack s.namespaces (find_named (queries_at s.queries u) name) to))
    where
      by : (b : Bool) → QueriesWithin table (if b then set s.queries u (change_named (ack_live to) name (queries_at s.queries u)) else s.queries)
      by true = one_changed u _ (change_tenant (quotas_in table u) (queries_at s.queries u) (queries u) (ack_live to) (ack_query (quotas_in table u).hold to) name)
      by false = queries
  queries_within u (Drop name) = by (is_accepted (check_drop (is_some (find_named (queries_at s.queries u) name))))
    where
      by : (b : Bool) → QueriesWithin table (if b then set s.queries u (remove_named (queries_at s.queries u) name) else s.queries)
      by true = one_changed u _ (remove_tenant (quotas_in table u) (queries_at s.queries u) (queries u) name)
      by false = queries
  queries_within u Lists = queries

  of_tenant : (u : ℕ) (c : Command) → QueriesWithin table (if has_tenant s.namespaces u then queries_after language s u c else s.queries)
  of_tenant u c = by (has_tenant s.namespaces u)
    where
      by : (b : Bool) → QueriesWithin table (if b then queries_after language s u c else s.queries)
      by true = queries_within u c
      by false = queries

-- ---- the state

pub record StateWithin (table : List Tenant) (s : State) : Type 0 where
  pub namespaces : NamespacesWithin table s.namespaces
  pub queries : QueriesWithin table s.queries

from_within : (language : Language) → HasFewInputs language → (table : List Tenant) (calls : List (ℕ × Command)) (s : State) → StateWithin table s → StateWithin table (state_from language s calls)
from_within language few table [] s within = within
from_within language few table (call ∷ calls) s within =
    from_within language few table calls (state_after language s call.0 call.1)
    (record { namespaces = directory_within table s.namespaces within.namespaces call.0 call.1; queries = of_tenant language few table s within.namespaces within.queries call.0 call.1 })

abbrev no_tenant : Tenant
no_tenant = record { name = []; key = []; quotas = no_namespace.quotas }

opening_within : (table : List Tenant) → StateWithin table (opening table)
opening_within table = record {
  namespaces = λ t. record { quotas = refl; streams = (let none : length (namespace_at (nothing_made table) t).streams ≡ 0 = ap length (opening_streams table t) in omega (arith, none)) };
  queries = λ t. subst (TenantWithin (quotas_in table t)) (sym (get_map {B = List (Named Live)} (λ x. []) table t no_tenant [] refl)) (record { count = omega arith; holds = tt });
}

-- ---- the rows that are held

need_most : (w : Window) (content unseen : List Element) → need_of w content unseen ≤ length content + length unseen
need_most (Range len slide) content unseen = omega arith
need_most (Rows count slide) content unseen = omega arith
need_most all content unseen = omega arith
need_most (Parts columns count) content unseen = omega arith

abbrev NeedsWithin : ℕ → List Stub → Type 0
NeedsWithin quota stubs = AllByRecursion (λ stub. need stub.held ≤ quota) stubs

live_within : (stream_id : StreamId) (quota : ℕ) (stubs : List Stub) → AllByRecursion (ChargedStub quota) stubs → NeedsWithin quota (live_on stream_id stubs)
live_within stream_id quota [] h = tt
live_within stream_id quota (stub ∷ stubs) h = by (live_within stream_id quota stubs h.1) stub.held.overrun (same_stream_id stub.stream_id stream_id)
  where
    by : NeedsWithin quota (live_on stream_id stubs) → (over same : Bool) → NeedsWithin quota (if over then live_on stream_id stubs else (if same then stub ∷ live_on stream_id stubs else live_on stream_id stubs))
    by rest true same = rest
    by rest false true = (let most : charged stub.held ≤ quota = (h.0).most in omega (arith, most, need_most stub.held.window stub.held.content stub.held.unseen), rest)
    by rest false false = rest

stubs_within : (stream_id : StreamId) (quota : ℕ) (qs : List (Named Live)) → AreWithinHold quota qs → NeedsWithin quota (stubs_of stream_id qs)
stubs_within stream_id quota [] h = tt
stubs_within stream_id quota (q ∷ qs) h =
    all_append (λ stub. need stub.held ≤ quota) (live_on stream_id (stubs_left q.item)) (stubs_of stream_id qs) (live_within stream_id quota (stubs_left q.item) (h.0).charges) (stubs_within stream_id quota qs h.1)

greatest_within : (quota : ℕ) (stubs : List Stub) → NeedsWithin quota stubs → greatest_need stubs ≤ quota
greatest_within quota [] h = omega arith
greatest_within quota (stub ∷ stubs) h = omega (arith, h.0, greatest_within quota stubs h.1)

greatest_for : (quota : ℕ) (stubs : List Stub) → NeedsWithin quota stubs → greatest_need stubs ≤ hold_for quota stubs
greatest_for quota [] h = omega arith
greatest_for quota (stub ∷ stubs) h = greatest_within quota (stub ∷ stubs) h

greatest_append : (xs ys : List Stub) → greatest_need (xs ++ ys) ≤ max (greatest_need xs) (greatest_need ys)
greatest_append [] ys = omega arith
greatest_append (x ∷ xs) ys = omega (arith, greatest_append xs ys)

rows_within : (stream_id : StreamId) (table : List Tenant) (queries : List (List (Named Live)))
    → ((t : ℕ) → AreWithinHold (quotas_in table t).hold (queries_at queries t)) → greatest_need (stubs_on stream_id queries) ≤ greatest_hold stream_id table queries
rows_within stream_id [] [] h = omega arith
rows_within stream_id [] (qs ∷ rest) h =
    let first : greatest_need (stubs_of stream_id qs) ≤ 0 = greatest_within 0 (stubs_of stream_id qs) (stubs_within stream_id 0 qs (h 0)) in
    let later : greatest_need (stubs_on stream_id rest) ≤ 0 = rows_within stream_id [] rest (λ t. h (suc t)) in
    omega (arith, first, later, greatest_append (stubs_of stream_id qs) (stubs_on stream_id rest))
rows_within stream_id (t ∷ ts) [] h = omega arith
rows_within stream_id (t ∷ ts) (qs ∷ rest) h =
    let first : greatest_need (stubs_of stream_id qs) ≤ hold_for t.quotas.hold (stubs_of stream_id qs) = greatest_for t.quotas.hold (stubs_of stream_id qs) (stubs_within stream_id t.quotas.hold qs (h 0)) in
    let later : greatest_need (stubs_on stream_id rest) ≤ greatest_hold stream_id ts rest = rows_within stream_id ts rest (λ i. h (suc i)) in
    omega (arith, first, later, greatest_append (stubs_of stream_id qs) (stubs_on stream_id rest))

bounded : (table : List Tenant) (s : State) → StateWithin table s → AreWithinQuotas table s
bounded table s within = record {
  rows = λ stream_id n held.
      (let same : greatest_need (stubs_on stream_id s.queries) ≡ n = number_of_rows (stream_at s.namespaces stream_id.owner stream_id.name) (greatest_need (stubs_on stream_id s.queries)) n held in
      omega (arith, same, rows_within stream_id table s.queries (λ t. (within.queries t).holds)));
  streams = λ t. (within.namespaces t).streams;
  queries = λ t. (within.queries t).count;
  holds = λ t. (within.queries t).holds;
}

-- ---- the product's language

query_few : ReadLaw → (readable : SchemaLookup) (text : List ℕ) (plan : Planned) (r : Result Written ℕ) → read_of text ≡ r → planned_from readable r ≡ Ok plan → IsFew plan
query_few read_law readable text plan (Ok q) is h =
    let found : Is text q = (read_law text).0 q is in
    planned_few readable q plan (tokens_of (lexed text).lexemes, found.2) (planned_typed readable q plan h)
query_few read_law readable text plan (Err at) is h = absurd cc

cql_few : ReadLaw → HasFewInputs cql
unfolding plan_of
cql_few read_law readable text plan h = query_few read_law readable text plan (read_of text) refl h

pub quotas_law : ReadLaw → IsHeldWithinQuotasLaw cql
quotas_law read_law table calls = bounded table (state_from cql (opening table) calls) (from_within cql (cql_few read_law) table calls (opening table) (opening_within table))
