-- The directory: what each command on streams is told, and the namespaces after it. No query and no element is in it.
use Rattle.std.specs.Prelude.{ℕ, ◌+◌, List, [], ◌∷◌, ◌++◌, Option, Some, None, option_map, unwrap_or, is_none, is_some, if◌then◌else◌}
use Rattle.cql_value.specs.declared.value.Value.{Value}
use Rattle.cql_value.specs.declared.schema.Column.{Column}
use Rattle.cql_tenants.specs.declared.stream_refusal.StreamRefusal.{StreamRefusal}
use Rattle.cql_tenants.specs.declared.stream_refusal.StreamRefusal.TheVariants.{UnknownStream, UnknownTenant}
use Rattle.cql_tenants.specs.Named.{change_named, index_of}
use Rattle.cql_window.specs.Projection.{projected}
use Rattle.cql_window.specs.Chosen.{shown_projection}
use Rattle.cql_tenants.specs.Namespace.{Namespace, Grant, has_tenant, namespace_at, change_namespace, tenant_named, stream_at, has_grant, without_grant}
use Rattle.cql_tenants.specs.Checks.{make_refused, grant_refused, taken_refused}
use Rattle.cql_tenants.specs.Taking.{put_refused, beat_refused, opens}

-- a command on streams; the columns of a new stream are its schema where they have one, and those of a grant are names
pub data StreamCommand : Type 0 where
  Make : (name : List ℕ) → (schema : Option (List Column)) → StreamCommand
  Share : (stream : List ℕ) → (to : List ℕ) → (columns : Option (List (List ℕ))) → StreamCommand
  Revoke : (stream : List ℕ) → (to : List ℕ) → StreamCommand
  Put : (stream : List ℕ) → (at : ℕ) → (row : List Value) → StreamCommand
  Beat : (stream : List ℕ) → (at : ℕ) → StreamCommand

-- why a command of a tenant of the table is refused, if it is
abbrev pub refused_at : List Namespace → ℕ → StreamCommand → Option StreamRefusal
refused_at namespaces user (Make name schema) = make_refused (namespace_at namespaces user).streams (namespace_at namespaces user).quotas.streams name schema
refused_at namespaces user (Share stream to columns) = grant_refused user (stream_at namespaces user stream) columns (has_grant namespaces user stream) (tenant_named namespaces user to)
refused_at namespaces user (Revoke stream to) = if is_some (stream_at namespaces user stream) then taken_refused user (has_grant namespaces user stream) (tenant_named namespaces user to) else Some UnknownStream
refused_at namespaces user (Put stream at row) = put_refused (stream_at namespaces user stream) at row
refused_at namespaces user (Beat stream at) = beat_refused (stream_at namespaces user stream) at

-- 31 of an index outside the table comes before all else
abbrev pub refused : List Namespace → ℕ → StreamCommand → Option StreamRefusal
refused namespaces user command = if has_tenant namespaces user then refused_at namespaces user command else Some UnknownTenant

-- a new stream takes all times
abbrev pub with_stream : List ℕ → List Column → Namespace → Namespace
with_stream name schema namespace = record namespace { streams = namespace.streams ++ record { name = name; item = record { schema = schema; clock = 0 } } ∷ [] }

abbrev pub with_time : List ℕ → ℕ → Namespace → Namespace
with_time stream at namespace = record namespace { streams = change_named (opens at) stream namespace.streams }

abbrev pub with_grant : Grant → Namespace → Namespace
with_grant grant namespace = record namespace { granted = namespace.granted ++ grant ∷ [] }

-- a grant shows all columns of the stream, or those that it names
abbrev pub grant_over : ℕ → ℕ → List ℕ → List Column → Option (List (List ℕ)) → Grant
grant_over user index stream schema columns = record {
  owner = user;
  index = index;
  stream = stream;
  schema = projected schema (shown_projection schema columns);
  projection = shown_projection schema columns;
  named = is_some columns;
}

abbrev pub new_grant : List Namespace → ℕ → List ℕ → Option (List (List ℕ)) → Grant
new_grant namespaces user stream columns =
    grant_over user (unwrap_or (index_of (namespace_at namespaces user).streams stream) 0) stream (unwrap_or (option_map (λ s. s.schema) (stream_at namespaces user stream)) []) columns

abbrev pub grant_to : List Namespace → Grant → Option ℕ → List Namespace
grant_to namespaces grant None = namespaces
grant_to namespaces grant (Some index) = change_namespace (with_grant grant) namespaces index

abbrev pub revoke_from : List Namespace → ℕ → List ℕ → Option ℕ → List Namespace
revoke_from namespaces user stream None = namespaces
revoke_from namespaces user stream (Some index) = change_namespace (without_grant user stream) namespaces index

-- the namespaces after a command that is accepted
abbrev pub done : List Namespace → ℕ → StreamCommand → List Namespace
done namespaces user (Make name schema) = change_namespace (with_stream name (unwrap_or schema [])) namespaces user
done namespaces user (Share stream to columns) = grant_to namespaces (new_grant namespaces user stream columns) (tenant_named namespaces user to)
done namespaces user (Revoke stream to) = revoke_from namespaces user stream (tenant_named namespaces user to)
done namespaces user (Put stream at row) = change_namespace (with_time stream at) namespaces user
done namespaces user (Beat stream at) = change_namespace (with_time stream (at + 1)) namespaces user

-- the namespaces after a command; one that is refused changes nothing
abbrev pub streams_after : List Namespace → ℕ → StreamCommand → List Namespace
streams_after namespaces user command = if is_none (refused namespaces user command) then done namespaces user command else namespaces
