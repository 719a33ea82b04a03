-- What a tenant sees of all commands: its own, the grants to it and their ends, and what is accepted on streams while they are granted to it, by the columns that the grants show.
use Rattle.std.specs.Prelude.{ℕ, Bool, false, ◌&&◌, ◌==◌, List, [], ◌∷◌, ◌++◌, Option, Some, None, is_some, if◌then◌else◌}
use Rattle.cql_value.specs.Element.{Element}
use Rattle.cql_tenants.specs.declared.namespace.Namespace.{Namespace}
use Rattle.cql_tenants.specs.declared.stream.Stream.{Stream as stream}
use Rattle.cql_window.specs.Projection.{projected}
use Rattle.cql_window.specs.Chosen.{shown_projection}
use Rattle.cql_tenants.specs.Namespace.{has_tenant, tenant_named, stream_at, has_grant}
use Rattle.cql_tenants.specs.Readable.{StreamView}
use Rattle.cql_core.specs.declared.command.Command.{Command}
use Rattle.cql_core.specs.declared.command.Command.TheVariants.{Stream, Grant, Revoke, Put, Beat, Query, Fetch, Ack, Drop, List as Lists}
use Rattle.cql_core.specs.StreamId.{StreamId, stream_id_of, projection_in}
use Rattle.cql_core.specs.ReplyModel.{is_accepted}
use Rattle.cql_core.specs.Directory.{directory_after, reply_on_streams}
use Rattle.cql_tenants.specs.Directory.{Share as share, Revoke as revoke, Put as put, Beat as beat}

pub data Seen : Type 0 where
  -- a command of the tenant's own
  Own : Command → Seen
  -- a stream of this name is granted to it: its owner, the columns that the grant shows, whether it names them, and the least time that the stream takes
  Appears : (name : List ℕ) → StreamView → Seen
  -- the grant of a stream is taken back
  Gone : StreamId → Seen
  -- a row, by the columns that the grant shows, and a heartbeat, on a stream that is granted to it
  Comes : StreamId → Element → Seen
  Beats : StreamId → ℕ → Seen

abbrev pub appears : ℕ → List ℕ → Option (List (List ℕ)) → Option stream → List Seen
appears owner name columns None = []
appears owner name columns (Some s) = Appears name (record { owner = owner; schema = projected s.schema (shown_projection s.schema columns); named = is_some columns; opened = s.clock }) ∷ []

-- it is the tenant at that index
abbrev pub is_tenant : ℕ → Option ℕ → Bool
is_tenant tenant None = false
is_tenant tenant (Some index) = index == tenant

-- what a tenant sees of another's command
abbrev pub seen_of_other : ℕ → List Namespace → ℕ → Command → List Seen
seen_of_other tenant namespaces user (Grant stream to columns) =
    if is_accepted (reply_on_streams namespaces user (share stream to columns)) && is_tenant tenant (tenant_named namespaces user to) then appears user stream columns (stream_at namespaces user stream) else []
seen_of_other tenant namespaces user (Revoke stream to) =
    if is_accepted (reply_on_streams namespaces user (revoke stream to)) && is_tenant tenant (tenant_named namespaces user to) then Gone (stream_id_of user stream) ∷ [] else []
seen_of_other tenant namespaces user (Put stream at row) =
    if is_accepted (reply_on_streams namespaces user (put stream at row)) && has_grant namespaces user stream tenant
    then Comes (stream_id_of user stream) (record { at = at; row = projected row (projection_in namespaces tenant (stream_id_of user stream)) }) ∷ [] else []
seen_of_other tenant namespaces user (Beat stream at) =
    if is_accepted (reply_on_streams namespaces user (beat stream at)) && has_grant namespaces user stream tenant then Beats (stream_id_of user stream) at ∷ [] else []
seen_of_other tenant namespaces user (Stream name columns) = []
seen_of_other tenant namespaces user (Query name text) = []
seen_of_other tenant namespaces user (Fetch name until) = []
seen_of_other tenant namespaces user (Ack name to) = []
seen_of_other tenant namespaces user (Drop name) = []
seen_of_other tenant namespaces user Lists = []

abbrev pub seen : ℕ → List Namespace → ℕ → Command → List Seen
seen tenant namespaces user command =
    if user == tenant then Own command ∷ [] else (if has_tenant namespaces user then seen_of_other tenant namespaces user command else [])

-- each command is seen from the directory before it
abbrev pub view : ℕ → List Namespace → List (ℕ × Command) → List Seen
view tenant namespaces [] = []
view tenant namespaces (call ∷ calls) = seen tenant namespaces call.0 call.1 ++ view tenant (directory_after namespaces call.0 call.1) calls
