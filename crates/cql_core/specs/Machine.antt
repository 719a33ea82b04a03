-- The machine: for each live query it keeps a stub on each of its inputs, trimmed behind the query's cursor. A stub holds whole rows.
use Rattle.std.specs.Prelude.{ℕ, Bool, List, [], ◌∷◌, ◌++◌, map, length, get_or, set, Option, Some, None, option_map, unwrap_or, Result, Ok, Err, is_some, is_none, nat_lt, if◌then◌else◌}
use Rattle.std.specs.List.{list_any}
use Rattle.cql_value.specs.Element.{Element}
use Rattle.cql_value.specs.Name.{is_name}
use Rattle.cql_tenants.specs.Named.{Named, find_named, change_named, remove_named, each}
use Rattle.cql_eval.specs.Pin.{PinModel}
use Rattle.cql_tenants.specs.declared.namespace.Namespace.{Namespace}
use Rattle.cql_tenants.specs.declared.tenants.Tenant.{Tenant}
use Rattle.cql_tenants.specs.Namespace.{nothing_made, has_tenant, namespace_at, tenant_named}
use Rattle.cql_tenants.specs.Lookup.{read_stream}
use Rattle.cql_tenants.specs.Listed.{own_stream}
use Rattle.cql_tenants.specs.Directory.{Make as make, Share as share, Revoke as revoke, Put as put, Beat as beat}
use Rattle.cql_store.specs.Held.{Held, opened, fed, advanced, pinned}
use Rattle.cql_core.specs.declared.command.Command.{Command}
use Rattle.cql_core.specs.declared.command.Command.TheVariants.{Stream, Grant, Revoke, Put, Beat, Query, Fetch, Ack, Drop, List as Lists}
use Rattle.cql_core.specs.declared.listing.OwnQuery.{OwnQuery}
use Rattle.cql_core.specs.declared.refusal.Refusal.{Refusal}
use Rattle.cql_core.specs.declared.refusal.Refusal.TheVariants.{UnknownTenant, UnknownQuery}
use Rattle.cql_core.specs.StreamId.{StreamId, stream_id_of, same_stream_id, projection_in}
use Rattle.cql_core.specs.Bound.{BoundInput, BoundPlan}
use Rattle.cql_core.specs.ReplyModel.{ReplyModel, Listed, Refused, is_accepted}
use Rattle.cql_core.specs.Language.{Language, reply_to_pin, bound_or}
use Rattle.cql_core.specs.Checks.{check_query, check_fetch, check_ack, check_drop, limit_over, next_of, is_behind}
use Rattle.cql_core.specs.Directory.{directory_after, reply_on_streams}
use Rattle.cql_core.specs.Lookup.{found_by, opened_in, columns_at}
use Rattle.cql_core.specs.Columns.{schema_of}

-- a query's stub on one of its inputs: the input's stream, and what is held there of whole rows
pub record Stub : Type 0 where
  pub stream_id : StreamId
  pub held : Held

-- a live query, its plan over whole rows, with a stub for each input; one that was revoked has none
pub record Live : Type 0 where
  pub plan : BoundPlan
  pub text : List ℕ
  pub base : ℕ
  pub cursor : ℕ
  pub stubs : Option (List Stub)

-- the directory, and beside each namespace the tenant's live queries in order of registration
pub record State : Type 0 where
  pub namespaces : List Namespace
  pub queries : List (List (Named Live))

-- a step tells at once, or pins what a fetch needs, in whole rows
pub data Stepped : Type 0 where
  Says : ReplyModel → Stepped
  Pinned : PinModel → Stepped

-- the state before the first command
abbrev pub opening : List Tenant → State
opening table = record { namespaces = nothing_made table; queries = map {B = List (Named Live)} (λ t. []) table }

abbrev pub queries_at : List (List (Named Live)) → ℕ → List (Named Live)
queries_at queries index = get_or queries index []

-- A REGISTRATION
-- a query begins at its base with nothing in its stubs
abbrev pub new_stub : ℕ → ℕ → BoundInput → Stub
new_stub hold base i = record { stream_id = i.stream_id; held = opened i.window base hold }

abbrev pub new_live : ℕ → ℕ → List ℕ → BoundPlan → Live
new_live hold base text plan = record { plan = plan; text = text; base = base; cursor = base; stubs = Some (map (new_stub hold base) plan.inputs) }

-- the plan of a text over the streams that the tenant reads: it is typed over the columns that the tenant sees, with their indices in the whole rows
abbrev pub plan_for : Language → List Namespace → ℕ → List ℕ → Result BoundPlan Refusal
plan_for language namespaces user text = bound_or (found_by namespaces user) (language.plan_of (columns_at (projection_in namespaces user) (found_by namespaces user)) text)

-- the least time that a plan's inputs still take: the base of a new query, and how far one may look
abbrev pub limit_in : List Namespace → BoundPlan → ℕ
limit_in namespaces plan = limit_over (opened_in namespaces) plan.inputs

abbrev pub reply_to_query : Language → State → ℕ → List ℕ → List ℕ → ReplyModel
reply_to_query language s user name text =
    check_query (is_name name) (language.bad_byte text) (is_some (find_named (queries_at s.queries user) name)) (nat_lt (length (queries_at s.queries user)) (namespace_at s.namespaces user).quotas.queries)
    (plan_for language s.namespaces user text) (limit_in s.namespaces)

abbrev pub with_live : ℕ → (BoundPlan → ℕ) → List ℕ → List ℕ → Result BoundPlan Refusal → List (Named Live) → List (Named Live)
with_live hold base_of name text (Err refusal) queries = queries
with_live hold base_of name text (Ok plan) queries = queries ++ record { name = name; item = new_live hold (base_of plan) text plan } ∷ []

-- A PUT
-- a row of a stream comes to the stubs on that stream
abbrev pub put_on : StreamId → Element → Stub → Stub
put_on stream_id x stub = if same_stream_id stub.stream_id stream_id then record stub { held = fed x stub.held } else stub

abbrev pub put_live : StreamId → Element → Live → Live
put_live stream_id x q = record q { stubs = option_map (map (put_on stream_id x)) q.stubs }

-- AN ACK
-- a stub at a later cursor
abbrev pub ack_stub : ℕ → Stub → Stub
ack_stub to stub = record stub { held = advanced to stub.held }

abbrev pub ack_live : ℕ → Live → Live
ack_live to q = record q { cursor = to; stubs = option_map (map (ack_stub to)) q.stubs }

abbrev pub stubs_left : Live → List Stub
stubs_left q = unwrap_or q.stubs []

abbrev pub is_revoked : Live → Bool
is_revoked q = is_none q.stubs

abbrev pub is_overrun : Live → Bool
is_overrun q = list_any (λ stub. stub.held.overrun) (stubs_left q)

abbrev pub reply_to_ack : List Namespace → Option Live → ℕ → ReplyModel
reply_to_ack namespaces None to = Refused UnknownQuery
reply_to_ack namespaces (Some q) to = check_ack (is_revoked q) (is_overrun q) (nat_lt (limit_in namespaces q.plan) to) (nat_lt to q.cursor)

-- A REVOKE
-- a query with an input on the stream loses all its stubs, also those on other streams
abbrev pub is_over : StreamId → BoundPlan → Bool
is_over stream_id plan = list_any (λ i. same_stream_id i.stream_id stream_id) plan.inputs

abbrev pub revoke_live : StreamId → Live → Live
revoke_live stream_id q = if is_over stream_id q.plan then record q { stubs = None } else q

-- those of the tenant that loses the grant
abbrev pub queries_revoked : StreamId → Option ℕ → List (List (Named Live)) → List (List (Named Live))
queries_revoked stream_id None queries = queries
queries_revoked stream_id (Some index) queries = set queries index (each (revoke_live stream_id) (queries_at queries index))

-- A FETCH
-- what a fetch takes out: of each stub its content, and its unseen rows before the end
abbrev pub pin_of : ℕ → Live → ℕ → PinModel
pin_of result q next = record { plan = q.plan.plan; base = q.base; from = q.cursor; next = next; limit = result; windows = map (λ stub. pinned next stub.held) (stubs_left q) }

abbrev pub reads : Language → Stepped → ReplyModel
reads language (Says told) = told
reads language (Pinned p) = reply_to_pin language p

abbrev pub pin_unless : Option Refusal → PinModel → Stepped
pin_unless None p = Pinned p
pin_unless (Some refusal) p = Says (Refused refusal)

abbrev pub step_of_fetch : List Namespace → ℕ → Option Live → Option ℕ → Stepped
step_of_fetch namespaces result None until = Says (Refused UnknownQuery)
step_of_fetch namespaces result (Some q) until =
    pin_unless (check_fetch (is_revoked q) (is_overrun q) (is_behind q.cursor until)) (pin_of result q (next_of (limit_in namespaces q.plan) until))

-- A LIST
abbrev pub own_query : Named Live → OwnQuery
own_query q = record { name = q.name; text = q.item.text; base = q.item.base; next = q.item.cursor }

abbrev pub reply_to_list : State → ℕ → ReplyModel
reply_to_list s user =
    Listed (record {
      streams = map own_stream (namespace_at s.namespaces user).streams;
      readable = map (read_stream s.namespaces) (namespace_at s.namespaces user).granted;
      queries = map own_query (queries_at s.queries user);
    })

-- THE STEP
-- the step of a tenant that is in the table
abbrev pub step_at : Language → State → ℕ → Command → Stepped
step_at language s user (Stream name columns) = Says (reply_on_streams s.namespaces user (make name (schema_of columns)))
step_at language s user (Grant stream to columns) = Says (reply_on_streams s.namespaces user (share stream to columns))
step_at language s user (Revoke stream to) = Says (reply_on_streams s.namespaces user (revoke stream to))
step_at language s user (Put stream at row) = Says (reply_on_streams s.namespaces user (put stream at row))
step_at language s user (Beat stream at) = Says (reply_on_streams s.namespaces user (beat stream at))
step_at language s user (Query name text) = Says (reply_to_query language s user name text)
step_at language s user (Fetch name until) = step_of_fetch s.namespaces (namespace_at s.namespaces user).quotas.result (find_named (queries_at s.queries user) name) until
step_at language s user (Ack name to) = Says (reply_to_ack s.namespaces (find_named (queries_at s.queries user) name) to)
step_at language s user (Drop name) = Says (check_drop (is_some (find_named (queries_at s.queries user) name)))
step_at language s user Lists = Says (reply_to_list s user)

-- the step of a tenant; that it is in the table is asked before all else
abbrev pub step_of : Language → State → ℕ → Command → Stepped
step_of language s user command = if has_tenant s.namespaces user then step_at language s user command else Says (Refused UnknownTenant)

-- the reply, a pin read by the definition
abbrev pub reply_to : Language → State → ℕ → Command → ReplyModel
reply_to language s user command = reads language (step_of language s user command)

-- the queries after a command of a tenant that is in the table; one that is refused changes nothing, and a fetch never does
abbrev pub queries_after : Language → State → ℕ → Command → List (List (Named Live))
queries_after language s user (Stream name columns) = s.queries
queries_after language s user (Grant stream to columns) = s.queries
queries_after language s user (Revoke stream to) =
    if is_accepted (reply_on_streams s.namespaces user (revoke stream to))
    then queries_revoked (stream_id_of user stream) (tenant_named s.namespaces user to) s.queries
    else s.queries
queries_after language s user (Put stream at row) =
    if is_accepted (reply_on_streams s.namespaces user (put stream at row))
    then map (each (put_live (stream_id_of user stream) (record { at = at; row = row }))) s.queries
    else s.queries
queries_after language s user (Beat stream at) = s.queries
queries_after language s user (Query name text) =
    if is_accepted (reply_to_query language s user name text)
    then set s.queries user (with_live (namespace_at s.namespaces user).quotas.hold (limit_in s.namespaces) name (language.spelled text) (plan_for language s.namespaces user text) (queries_at s.queries user))
    else s.queries
queries_after language s user (Fetch name until) = s.queries
queries_after language s user (Ack name to) =
    if is_accepted (reply_to_ack s.namespaces (find_named (queries_at s.queries user) name) to)
    then set s.queries user (change_named (ack_live to) name (queries_at s.queries user))
    else s.queries
queries_after language s user (Drop name) =
    if is_accepted (check_drop (is_some (find_named (queries_at s.queries user) name)))
    then set s.queries user (remove_named (queries_at s.queries user) name)
    else s.queries
queries_after language s user Lists = s.queries

-- the state after a command; its namespaces are those of the directory
abbrev pub state_after : Language → State → ℕ → Command → State
state_after language s user command = record {
  namespaces = directory_after s.namespaces user command;
  queries = (if has_tenant s.namespaces user then queries_after language s user command else s.queries);
}
