-- What a view means by itself: one tenant, and of each of its queries all rows that came since its registration. Nothing is trimmed.
use Rattle.std.specs.Prelude.{ℕ, ◌+◌, Bool, false, not, ◌||◌, ◌==◌, List, [], ◌∷◌, ◌++◌, map, length, get_or, Option, Some, None, option_map, option_and_then, unwrap_or, Result, Ok, Err, is_some, nat_lt, if◌then◌else◌}
use Rattle.std.specs.List.{list_any, filter, position}
use Rattle.cql_value.specs.Element.{Element}
use Rattle.cql_value.specs.Name.{is_name}
use Rattle.cql_window.specs.Window.{charge}
use Rattle.cql_window.specs.Pin.{Pinned}
use Rattle.cql_tenants.specs.Listed.{GrantedStream, own_stream, named_columns}
use Rattle.cql_tenants.specs.declared.stream_refusal.StreamRefusal.TheVariants as refused
use Rattle.cql_tenants.specs.declared.stream.Stream.{Stream as stream}
use Rattle.cql_tenants.specs.declared.tenants.Quotas.{Quotas}
use Rattle.cql_tenants.specs.declared.tenants.Tenant.{Tenant}
use Rattle.cql_tenants.specs.Named.{Named, same_name, find_named, change_named, remove_named, each}
use Rattle.cql_tenants.specs.Namespace.{no_namespace}
use Rattle.cql_tenants.specs.Taking.{put_refused, beat_refused, opens}
use Rattle.cql_tenants.specs.Readable.{StreamView}
use Rattle.cql_core.specs.declared.command.Command.{Command}
use Rattle.cql_core.specs.declared.command.Command.TheVariants.{Stream, Grant, Revoke, Put, Beat, Query, Fetch, Ack, Drop, List as Lists}
use Rattle.cql_core.specs.declared.listing.OwnQuery.{OwnQuery}
use Rattle.cql_core.specs.declared.refusal.Refusal.{Refusal}
use Rattle.cql_core.specs.declared.refusal.Refusal.TheVariants.{UnknownTenant, UnknownQuery}
use Rattle.cql_core.specs.Columns.{schema_of}
use Rattle.cql_core.specs.StreamId.{StreamId, stream_id_of, same_stream_id}
use Rattle.cql_core.specs.Bound.{StreamLookup, BoundInput, BoundPlan}
use Rattle.cql_core.specs.ReplyModel.{ReplyModel, done_unless, Listed, Refused, is_accepted}
use Rattle.cql_core.specs.Language.{Language, plan_over, reply_to_pin}
use Rattle.cql_core.specs.Checks.{check_query, check_fetch, check_ack, check_drop, limit_over, next_of, is_behind, reply_unless}
use Rattle.cql_core.specs.View.{Seen, Own, Appears, Gone, Comes, Beats}
use Rattle.cql_tenants.specs.Checks.{make_refused, grant_refused, taken_refused}

-- an element, and the stream that it came on
pub record Came : Type 0 where
  pub stream_id : StreamId
  pub element : Element

-- a live query, its plan over the columns that are seen, with all elements that came since its registration, and whether the grant of one of its streams was taken back since then
pub record SoloQuery : Type 0 where
  pub plan : BoundPlan
  pub text : List ℕ
  pub base : ℕ
  pub cursor : ℕ
  pub came : List Came
  pub gone : Bool

-- what a tenant knows: the names of all tenants, its quotas, its streams in order of making, its own grants (the index of the reader and
-- the name of the stream), the streams that were granted to it in order of the grants, and its live queries in order of registration
pub record SoloState : Type 0 where
  pub names : List (List ℕ)
  pub quotas : Quotas
  pub streams : List (Named stream)
  pub given : List StreamId
  pub readable : List (Named StreamView)
  pub queries : List (Named SoloQuery)

abbrev pub solo_opening : List Tenant → ℕ → SoloState
solo_opening table tenant = record { names = map (λ t. t.name) table; quotas = get_or (map (λ t. t.quotas) table) tenant no_namespace.quotas; streams = []; given = []; readable = []; queries = [] }

-- STREAMS
-- the index of the tenant of that name: the tenant's own name is the tenant itself
abbrev pub tenant_in : ℕ → SoloState → List ℕ → Option ℕ
tenant_in tenant k name = if same_name name (get_or k.names tenant []) then Some tenant else position (λ other. same_name name other) k.names

abbrev pub granted_in : List (Named StreamView) → StreamId → Option StreamView
granted_in [] stream_id = None
granted_in (g ∷ gs) stream_id = if same_stream_id stream_id (stream_id_of g.item.owner g.name) then Some g.item else granted_in gs stream_id

-- a stream as the tenant reads it, where it may
abbrev pub stream_in : ℕ → SoloState → StreamId → Option StreamView
stream_in tenant k stream_id =
    if stream_id.owner == tenant
    then option_map (λ s. record { owner = tenant; schema = s.schema; named = false; opened = s.clock }) (find_named k.streams stream_id.name)
    else granted_in k.readable stream_id

-- the streams that the tenant reads, by what stands before the dot and by the name; with nothing before the dot one is the tenant's own
abbrev pub found_in : ℕ → SoloState → StreamLookup
found_in tenant k None name = stream_in tenant k (stream_id_of tenant name)
found_in tenant k (Some owner) name = option_and_then (λ index. stream_in tenant k (stream_id_of index name)) (tenant_in tenant k owner)

-- the least time that a stream still takes
abbrev pub opened_to : ℕ → SoloState → StreamId → ℕ
opened_to tenant k stream_id = unwrap_or (option_map (λ s. s.opened) (stream_in tenant k stream_id)) 0

-- ROWS
-- the rows of a stream among the elements that came
abbrev pub rows_on : StreamId → List Came → List Element
rows_on stream_id [] = []
rows_on stream_id (c ∷ cs) = if same_stream_id stream_id c.stream_id then c.element ∷ rows_on stream_id cs else rows_on stream_id cs

-- whether some window's charge is above the tenant's quota; it is asked only where a fetch or an ack asks
abbrev pub passes : ℕ → SoloQuery → Bool
passes hold q = list_any (λ i. nat_lt hold (charge i.window q.cursor [] (rows_on i.stream_id q.came))) q.plan.inputs

-- all rows of an input
abbrev pub whole : SoloQuery → BoundInput → Pinned
whole q i = record { window = i.window; content = []; unseen = rows_on i.stream_id q.came }

-- the blocks of a query over all its rows, from its cursor up to an instant
abbrev pub blocks_over : Language → ℕ → SoloQuery → ℕ → ReplyModel
blocks_over language result q next =
    reply_to_pin language (record { plan = q.plan.plan; base = q.base; from = q.cursor; next = next; limit = result; windows = map (whole q) q.plan.inputs })

-- the stream was given to the tenant at that index
abbrev pub is_given : SoloState → List ℕ → ℕ → Bool
is_given k stream to = list_any (λ g. same_stream_id (stream_id_of to stream) g) k.given

abbrev pub plan_in : Language → ℕ → SoloState → List ℕ → Result BoundPlan Refusal
plan_in language tenant k text = plan_over language (found_in tenant k) text

-- the least time that a plan's inputs still take: the base of a new query, and how far one may look
abbrev pub limit_to : ℕ → SoloState → BoundPlan → ℕ
limit_to tenant k plan = limit_over (opened_to tenant k) plan.inputs

-- WHAT EACH COMMAND MEANS
abbrev pub meaning_of_query : Language → ℕ → SoloState → List ℕ → List ℕ → ReplyModel
meaning_of_query language tenant k name text =
    check_query (is_name name) (language.bad_byte text) (is_some (find_named k.queries name)) (nat_lt (length k.queries) k.quotas.queries) (plan_in language tenant k text) (limit_to tenant k)

abbrev pub meaning_of_fetch : Language → ℕ → SoloState → Option SoloQuery → Option ℕ → ReplyModel
meaning_of_fetch language tenant k None until = Refused UnknownQuery
meaning_of_fetch language tenant k (Some q) until =
    reply_unless (check_fetch q.gone (passes k.quotas.hold q) (is_behind q.cursor until)) (blocks_over language k.quotas.result q (next_of (limit_to tenant k q.plan) until))

abbrev pub meaning_of_ack : ℕ → SoloState → Option SoloQuery → ℕ → ReplyModel
meaning_of_ack tenant k None to = Refused UnknownQuery
meaning_of_ack tenant k (Some q) to = check_ack q.gone (passes k.quotas.hold q) (nat_lt (limit_to tenant k q.plan) to) (nat_lt to q.cursor)

abbrev pub shown_stream : SoloState → Named StreamView → GrantedStream
shown_stream k g = record { owner = get_or k.names g.item.owner []; stream = g.name; columns = named_columns g.item.named g.item.schema; opened = g.item.opened }

abbrev pub shown_query : Named SoloQuery → OwnQuery
shown_query q = record { name = q.name; text = q.item.text; base = q.item.base; next = q.item.cursor }

abbrev pub meaning_of_list : SoloState → ReplyModel
meaning_of_list k = Listed (record { streams = map own_stream k.streams; readable = map (shown_stream k) k.readable; queries = map shown_query k.queries })

-- the meaning of a command of the tenant's own, where it is in the table
abbrev pub own_meaning : Language → ℕ → SoloState → Command → ReplyModel
own_meaning language tenant k (Stream name columns) = done_unless (make_refused k.streams k.quotas.streams name (schema_of columns))
own_meaning language tenant k (Grant stream to columns) = done_unless (grant_refused tenant (find_named k.streams stream) columns (is_given k stream) (tenant_in tenant k to))
own_meaning language tenant k (Revoke stream to) =
    done_unless (if is_some (find_named k.streams stream) then taken_refused tenant (is_given k stream) (tenant_in tenant k to) else Some refused.UnknownStream)
own_meaning language tenant k (Put stream at row) = done_unless (put_refused (find_named k.streams stream) at row)
own_meaning language tenant k (Beat stream at) = done_unless (beat_refused (find_named k.streams stream) at)
own_meaning language tenant k (Query name text) = meaning_of_query language tenant k name text
own_meaning language tenant k (Fetch name until) = meaning_of_fetch language tenant k (find_named k.queries name) until
own_meaning language tenant k (Ack name to) = meaning_of_ack tenant k (find_named k.queries name) to
own_meaning language tenant k (Drop name) = check_drop (is_some (find_named k.queries name))
own_meaning language tenant k Lists = meaning_of_list k

abbrev pub meaning : Language → ℕ → SoloState → Command → ReplyModel
meaning language tenant k command = if nat_lt tenant (length k.names) then own_meaning language tenant k command else Refused UnknownTenant

-- WHAT IS KNOWN AFTER IT
-- an element comes to each live query
abbrev pub with_came : StreamId → Element → SoloQuery → SoloQuery
with_came stream_id x q = record q { came = q.came ++ record { stream_id = stream_id; element = x } ∷ [] }

abbrev pub open_granted : StreamId → ℕ → Named StreamView → Named StreamView
open_granted stream_id at g = if same_stream_id stream_id (stream_id_of g.item.owner g.name) then record g { item = record g.item { opened = at } } else g

abbrev pub new_solo_query : (BoundPlan → ℕ) → List ℕ → BoundPlan → SoloQuery
new_solo_query base_of text plan = record { plan = plan; text = text; base = base_of plan; cursor = base_of plan; came = []; gone = false }

abbrev pub with_solo_query : (BoundPlan → ℕ) → List ℕ → List ℕ → Result BoundPlan Refusal → List (Named SoloQuery) → List (Named SoloQuery)
with_solo_query base_of name text (Err refusal) queries = queries
with_solo_query base_of name text (Ok plan) queries = queries ++ record { name = name; item = new_solo_query base_of text plan } ∷ []

abbrev pub moved : ℕ → SoloQuery → SoloQuery
moved to q = record q { cursor = to }

-- the reader that a grant names
abbrev pub with_given : List ℕ → Option ℕ → List StreamId → List StreamId
with_given stream None given = given
with_given stream (Some to) given = given ++ stream_id_of to stream ∷ []

abbrev pub without_given : List ℕ → Option ℕ → List StreamId → List StreamId
without_given stream None given = given
without_given stream (Some to) given = filter (λ g. not (same_stream_id (stream_id_of to stream) g)) given

-- a query with an input on a stream whose grant is taken back is gone, and stays so
abbrev pub with_gone : StreamId → SoloQuery → SoloQuery
with_gone stream_id q = record q { gone = q.gone || list_any (λ i. same_stream_id i.stream_id stream_id) q.plan.inputs }

abbrev pub without_granted : StreamId → List (Named StreamView) → List (Named StreamView)
without_granted stream_id gs = filter (λ g. not (same_stream_id stream_id (stream_id_of g.item.owner g.name))) gs

-- what is known after a command of the tenant's own that was accepted
abbrev pub solo_done : Language → ℕ → SoloState → Command → SoloState
solo_done language tenant k (Stream name columns) = record k { streams = k.streams ++ record { name = name; item = record { schema = unwrap_or (schema_of columns) []; clock = 0 } } ∷ [] }
solo_done language tenant k (Grant stream to columns) = record k { given = with_given stream (tenant_in tenant k to) k.given }
solo_done language tenant k (Revoke stream to) = record k { given = without_given stream (tenant_in tenant k to) k.given }
solo_done language tenant k (Put stream at row) =
    record k { streams = change_named (opens at) stream k.streams; queries = each (with_came (stream_id_of tenant stream) (record { at = at; row = row })) k.queries }
solo_done language tenant k (Beat stream at) = record k { streams = change_named (opens (at + 1)) stream k.streams }
solo_done language tenant k (Query name text) = record k { queries = with_solo_query (limit_to tenant k) name (language.spelled text) (plan_in language tenant k text) k.queries }
solo_done language tenant k (Fetch name until) = k
solo_done language tenant k (Ack name to) = record k { queries = change_named (moved to) name k.queries }
solo_done language tenant k (Drop name) = record k { queries = remove_named k.queries name }
solo_done language tenant k Lists = k

abbrev pub solo_after : Language → ℕ → SoloState → Seen → SoloState
solo_after language tenant k (Own command) = if is_accepted (meaning language tenant k command) then solo_done language tenant k command else k
solo_after language tenant k (Appears name s) = record k { readable = k.readable ++ record { name = name; item = s } ∷ [] }
solo_after language tenant k (Gone stream_id) = record k { readable = without_granted stream_id k.readable; queries = each (with_gone stream_id) k.queries }
solo_after language tenant k (Comes stream_id x) = record k { readable = map (open_granted stream_id x.at) k.readable; queries = each (with_came stream_id x) k.queries }
solo_after language tenant k (Beats stream_id at) = record k { readable = map (open_granted stream_id (at + 1)) k.readable }

-- what is known after a view
abbrev pub solo_from : Language → ℕ → SoloState → List Seen → SoloState
solo_from language tenant k [] = k
solo_from language tenant k (e ∷ es) = solo_from language tenant (solo_after language tenant k e) es

abbrev pub replies_to_seen : Language → ℕ → SoloState → Seen → List ReplyModel
replies_to_seen language tenant k (Own command) = meaning language tenant k command ∷ []
replies_to_seen language tenant k (Appears name s) = []
replies_to_seen language tenant k (Gone stream_id) = []
replies_to_seen language tenant k (Comes stream_id x) = []
replies_to_seen language tenant k (Beats stream_id at) = []

-- the replies to the tenant's own commands, each from what the view shows before it
abbrev pub solo : Language → ℕ → SoloState → List Seen → List ReplyModel
solo language tenant k [] = []
solo language tenant k (e ∷ es) = replies_to_seen language tenant k e ++ solo language tenant (solo_after language tenant k e) es
