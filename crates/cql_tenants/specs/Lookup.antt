-- What is looked up among the namespaces: a stream by its owner and its name, where a tenant may read it.
use Rattle.std.specs.Prelude.{◌≡◌, IfSome, List, option_map, unwrap_or, ℕ, Option, false, None, Some, if◌then◌else◌, ◌==◌, length, map, ◌++◌, Err, Ok, Result}
use Rattle.cql_tenants.specs.Named.{Named, index_of}
use Rattle.cql_tenants.specs.declared.stream_refusal.StreamRefusal.{StreamRefusal}
use Rattle.cql_tenants.specs.declared.stream_refusal.StreamRefusal.TheVariants.{UnknownTenant}
use Rattle.cql_window.specs.Projection.{whole_projection, projected, AreWithin}
use Rattle.cql_tenants.specs.declared.namespace.Namespace.{Namespace}
use Rattle.cql_tenants.specs.Namespace.{stream_at, Grant, namespace_at, grant_of, tenant_named, has_tenant, Stream}
use Rattle.cql_tenants.specs.Listed.{GrantedStream, named_columns}
use Rattle.cql_tenants.specs.Readable.{StreamView}
use Rattle.cql_tenants.specs.declared.readable.FoundStream.{FoundStream}
use Rattle.cql_tenants.specs.declared.readable.ReadableStream.{ReadableStream}

-- the least time that a stream still takes
abbrev pub opened_at : List Namespace → ℕ → List ℕ → ℕ
opened_at namespaces owner name = unwrap_or (option_map (λ s. s.clock) (stream_at namespaces owner name)) 0

abbrev pub read_stream : List Namespace → Grant → GrantedStream
read_stream namespaces g = record { owner = (namespace_at namespaces g.owner).name; stream = g.stream; columns = named_columns g.named g.schema; opened = opened_at namespaces g.owner g.stream }

abbrev pub own_found : List Namespace → ℕ → List ℕ → Option StreamView
own_found namespaces user name = option_map (λ s. record { owner = user; schema = s.schema; named = false; opened = s.clock }) (stream_at namespaces user name)

abbrev pub granted_found : List Namespace → ℕ → ℕ → List ℕ → Option StreamView
granted_found namespaces user owner name = option_map (λ g. record { owner = g.owner; schema = g.schema; named = g.named; opened = opened_at namespaces g.owner g.stream }) (grant_of (namespace_at namespaces user) owner name)

-- the tenant that is meant by what stands before the dot: with no dot the caller itself
abbrev pub owner_meant : List Namespace → ℕ → Option (List ℕ) → Option ℕ
owner_meant namespaces user None = Some user
owner_meant namespaces user (Some name) = tenant_named namespaces user name

abbrev pub found_of : List Namespace → ℕ → Option ℕ → List ℕ → Option StreamView
found_of namespaces user None name = None
found_of namespaces user (Some owner) name = if owner == user then own_found namespaces user name else granted_found namespaces user owner name

-- a stream that isn't granted is found as little as one that isn't there
abbrev pub found : List Namespace → ℕ → Option (List ℕ) → List ℕ → Option StreamView
found namespaces user owner name = if has_tenant namespaces user then found_of namespaces user (owner_meant namespaces user owner) name else None

abbrev pub seen_of : FoundStream → StreamView
seen_of f = record { owner = f.owner; schema = f.schema.now; named = f.named; opened = f.opened }

-- a stream of the tenant's own goes by its name
abbrev pub own_readable : Named Stream → ReadableStream
own_readable s = record { owner = None; name = s.name; schema = s.item.schema; projection = whole_projection (length s.item.schema); opened = s.item.clock }

-- one of another's goes by owner and name, and has the columns of the grant
abbrev pub granted_readable : List Namespace → Grant → ReadableStream
granted_readable namespaces g = record { owner = Some (namespace_at namespaces g.owner).name; name = g.stream; schema = g.schema; projection = g.projection; opened = opened_at namespaces g.owner g.stream }

-- own streams in order of making, then the others in order of the grants
abbrev pub all_readable : List Namespace → Namespace → List ReadableStream
all_readable namespaces namespace = map own_readable namespace.streams ++ map (granted_readable namespaces) namespace.granted

abbrev pub readable_to : List Namespace → ℕ → Result (List ReadableStream) StreamRefusal
readable_to namespaces user = if has_tenant namespaces user then Ok (all_readable namespaces (namespace_at namespaces user)) else Err UnknownTenant

-- what was found is its owner's stream of the name: it stands at that index, and the columns are this projection of the stream's own
pub record IsOwnersStream (namespaces : List Namespace) (name : List ℕ) (f : FoundStream) : Type 0 where
  pub index : index_of (namespace_at namespaces f.owner).streams name ≡ Some f.index
  pub schema : option_map (λ s. projected s.schema f.projection.now) (stream_at namespaces f.owner name) ≡ Some f.schema.now
  pub within : IfSome (stream_at namespaces f.owner name) (λ s. AreWithin f.projection.now (length s.schema))
