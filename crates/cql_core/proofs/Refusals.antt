-- Commands that change nothing: those that are refused, and those that are told blocks.
use Rattle.std.proofs.Common.{◌≡◌, ℕ, Bool, true, false, List, refl, ap, ◌∙◌, sym}
use Rattle.std.specs.Prelude.{Option, Some, None, Result, Ok, Err, is_some, is_none, nat_lt, length, if◌then◌else◌}
use Rattle.cql_value.specs.Name.{is_name}
use Rattle.cql_tenants.specs.declared.namespace.Namespace.{Namespace}
use Rattle.cql_tenants.specs.declared.stream_refusal.StreamRefusal.{StreamRefusal}
use Rattle.cql_tenants.specs.declared.stream_refusal.StreamRefusal.TheVariants as refused
use Rattle.cql_tenants.specs.Named.{find_named}
use Rattle.cql_tenants.specs.Namespace.{has_tenant, namespace_at}
use Rattle.cql_tenants.specs.Directory.{StreamCommand, Make as make, Share as share, Revoke as revoke, Put as put, Beat as beat, refused_at, done}
use Rattle.cql_tenants.specs.Directory.{streams_after}
use Rattle.cql_core.specs.declared.command.Command.{Command}
use Rattle.cql_core.specs.declared.command.Command.TheVariants.{Stream, Grant, Revoke, Put, Beat, Query, Fetch, Ack, Drop, List as Lists}
use Rattle.cql_core.specs.declared.refusal.Refusal.{Refusal}
use Rattle.cql_core.specs.declared.refusal.Refusal.TheVariants.{UnknownTenant}
use Rattle.cql_core.specs.Columns.{schema_of}
use Rattle.cql_core.specs.Bound.{BoundPlan}
use Rattle.cql_core.specs.ReplyModel.{ReplyModel, Done, Based, Blocks, Listed, Refused, done_unless, is_accepted}
use Rattle.cql_core.specs.Language.{Language}
use Rattle.cql_core.specs.Checks.{check_query, check_ack, check_drop}
use Rattle.cql_core.specs.Directory.{directory_after}
use Rattle.cql_core.specs.Machine.{Live, State, queries_at, plan_for, limit_in, is_revoked, is_overrun, reply_to_ack, reads, step_at, reply_to, queries_after, state_after, Says}
use Rattle.cql_core.specs.Law.{AreRefusalLaws}

-- the directory stays where the command is refused in it
refused_by : (index : Bool) (o : Option StreamRefusal) → (index ≡ true → is_accepted (done_unless o) ≡ false) → is_none (if index then o else Some refused.UnknownTenant) ≡ false
refused_by true None h = h refl
refused_by true (Some r) h = refl
refused_by false o h = refl

directory_stays : (namespaces : List Namespace) (u : ℕ) (c : StreamCommand) → (has_tenant namespaces u ≡ true → is_accepted (done_unless (refused_at namespaces u c)) ≡ false) → streams_after namespaces u c ≡ namespaces
directory_stays namespaces u c h = ap (λ b. if b then done namespaces u c else namespaces) (refused_by (has_tenant namespaces u) (refused_at namespaces u c) h)

module _ (language : Language) (s : State) (u : ℕ) where
  abbrev Unaccepted : ReplyModel → Type 0
  Unaccepted told = has_tenant s.namespaces u ≡ true → is_accepted told ≡ false

  -- the queries of a tenant that is there
  queries_stay : (c : Command) → is_accepted (reads language (step_at language s u c)) ≡ false → queries_after language s u c ≡ s.queries
  queries_stay (Stream name columns) h = refl
  queries_stay (Grant stream to columns) h = refl
  queries_stay (Revoke stream to) h = rw h
  queries_stay (Put stream at row) h = rw h
  queries_stay (Beat stream at) h = refl
  queries_stay (Query name text) h = rw h
  queries_stay (Fetch name until) h = refl
  queries_stay (Ack name to) h = rw h
  queries_stay (Drop name) h = rw h
  queries_stay Lists h = refl

  namespaces_unchanged : (c : Command) → Unaccepted (reads language (step_at language s u c)) → directory_after s.namespaces u c ≡ s.namespaces
  namespaces_unchanged (Stream name columns) h = directory_stays s.namespaces u (make name (schema_of columns)) h
  namespaces_unchanged (Grant stream to columns) h = directory_stays s.namespaces u (share stream to columns) h
  namespaces_unchanged (Revoke stream to) h = directory_stays s.namespaces u (revoke stream to) h
  namespaces_unchanged (Put stream at row) h = directory_stays s.namespaces u (put stream at row) h
  namespaces_unchanged (Beat stream at) h = directory_stays s.namespaces u (beat stream at) h
  namespaces_unchanged (Query name text) h = refl
  namespaces_unchanged (Fetch name until) h = refl
  namespaces_unchanged (Ack name to) h = refl
  namespaces_unchanged (Drop name) h = refl
  namespaces_unchanged Lists h = refl

  unchanged_by : (c : Command) (has : Bool) → (has ≡ true → is_accepted (reads language (step_at language s u c)) ≡ false) → (if has then queries_after language s u c else s.queries) ≡ s.queries
  unchanged_by c true h = queries_stay c (h refl)
  unchanged_by c false h = refl

  unchanged : (c : Command) → Unaccepted (reads language (step_at language s u c)) → state_after language s u c ≡ s
  unchanged c h = λ i. record { namespaces = namespaces_unchanged c h i; queries = unchanged_by c (has_tenant s.namespaces u) h i }

  -- what a tenant that is there is told
  told_there : (c : Command) (told : ReplyModel) → reply_to language s u c ≡ told → has_tenant s.namespaces u ≡ true → reads language (step_at language s u c) ≡ told
  told_there c told e here = (λ i. reads language (if sym here i then step_at language s u c else Says (Refused UnknownTenant))) ∙ e

  pub refused_stays : (c : Command) (r : Refusal) → reply_to language s u c ≡ Refused r → state_after language s u c ≡ s
  refused_stays c r e = unchanged c (λ here. ap is_accepted (told_there c (Refused r) e here))

-- whether blocks are told
abbrev are_blocks : ReplyModel → Bool
are_blocks Done = false
are_blocks (Based base) = false
are_blocks (Blocks blocks next) = true
are_blocks (Listed listing) = false
are_blocks (Refused refusal) = false

unblocked_stream : (o : Option StreamRefusal) → are_blocks (done_unless o) ≡ false
unblocked_stream None = refl
unblocked_stream (Some r) = refl

unblocked_query : (named : Bool) (bad : Option ℕ) (exists room : Bool) (planned : Result BoundPlan Refusal) (base_of : BoundPlan → ℕ) → are_blocks (check_query named bad exists room planned base_of) ≡ false
unblocked_query false bad exists room planned base_of = refl
unblocked_query true (Some at) exists room planned base_of = refl
unblocked_query true None true room planned base_of = refl
unblocked_query true None false false planned base_of = refl
unblocked_query true None false true (Err r) base_of = refl
unblocked_query true None false true (Ok plan) base_of = refl

unblocked_check : (revoked overrun ahead behind : Bool) → are_blocks (check_ack revoked overrun ahead behind) ≡ false
unblocked_check true overrun ahead behind = refl
unblocked_check false true ahead behind = refl
unblocked_check false false true behind = refl
unblocked_check false false false true = refl
unblocked_check false false false false = refl

unblocked_ack : (namespaces : List Namespace) (q : Option Live) (to : ℕ) → are_blocks (reply_to_ack namespaces q to) ≡ false
unblocked_ack namespaces None to = refl
unblocked_ack namespaces (Some q) to = unblocked_check (is_revoked q) (is_overrun q) (nat_lt (limit_in namespaces q.plan) to) (nat_lt to q.cursor)

unblocked_drop : (exists : Bool) → are_blocks (check_drop exists) ≡ false
unblocked_drop true = refl
unblocked_drop false = refl

either_way : {A : Type 0} (b : Bool) (x : A) → (if b then x else x) ≡ x
either_way true x = refl
either_way false x = refl

-- only a fetch is told blocks
module _ (language : Language) (s : State) (u : ℕ) where
  abbrev Blocked : Command → Type 0
  Blocked c = has_tenant s.namespaces u ≡ true → are_blocks (reads language (step_at language s u c)) ≡ true

  not_there : (told : ReplyModel) → are_blocks told ≡ false → (has_tenant s.namespaces u ≡ true → are_blocks told ≡ true) → has_tenant s.namespaces u ≡ true → is_accepted told ≡ false
  not_there told none some here = absurd (cc (sym none ∙ some here))

  blocked_stays : (c : Command) → Blocked c → state_after language s u c ≡ s
  blocked_stays (Stream name columns) h = unchanged language s u (Stream name columns) (not_there _ (unblocked_stream (refused_at s.namespaces u (make name (schema_of columns)))) h)
  blocked_stays (Grant stream to columns) h = unchanged language s u (Grant stream to columns) (not_there _ (unblocked_stream (refused_at s.namespaces u (share stream to columns))) h)
  blocked_stays (Revoke stream to) h = unchanged language s u (Revoke stream to) (not_there _ (unblocked_stream (refused_at s.namespaces u (revoke stream to))) h)
  blocked_stays (Put stream at row) h = unchanged language s u (Put stream at row) (not_there _ (unblocked_stream (refused_at s.namespaces u (put stream at row))) h)
  blocked_stays (Beat stream at) h = unchanged language s u (Beat stream at) (not_there _ (unblocked_stream (refused_at s.namespaces u (beat stream at))) h)
  blocked_stays (Query name text) h =
      unchanged language s u (Query name text) (not_there _
      (unblocked_query (is_name name) (language.bad_byte text) (is_some (find_named (queries_at s.queries u) name)) (nat_lt (length (queries_at s.queries u)) (namespace_at s.namespaces u).quotas.queries)
      (plan_for language s.namespaces u text) (limit_in s.namespaces)) h)
  blocked_stays (Fetch name until) h = λ i. record { namespaces = s.namespaces; queries = either_way (has_tenant s.namespaces u) s.queries i }
  blocked_stays (Ack name to) h = unchanged language s u (Ack name to) (not_there _ (unblocked_ack s.namespaces (find_named (queries_at s.queries u) name) to) h)
  blocked_stays (Drop name) h = unchanged language s u (Drop name) (not_there _ (unblocked_drop (is_some (find_named (queries_at s.queries u) name))) h)
  blocked_stays Lists h = λ i. record { namespaces = s.namespaces; queries = either_way (has_tenant s.namespaces u) s.queries i }

pub refusals_law : AreRefusalLaws
refusals_law language = (refused_stays language, λ s u c blocks next e. blocked_stays language s u c (λ here. ap are_blocks (told_there language s u c (Blocks blocks next) e here)))
