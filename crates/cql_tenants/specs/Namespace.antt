-- What there is: a namespace for each tenant, with its streams and the streams that were granted to it.
use Rattle.std.specs.Prelude.{is_some, ℕ, Bool, ◌&&◌, ◌==◌, not, List, [], map, length, get_or, set, Option, Some, nat_lt, if◌then◌else◌}
use Rattle.std.specs.List.{find, filter, position}
use Rattle.cql_tenants.specs.declared.tenants.Quotas.{Quotas}
use Rattle.cql_tenants.specs.declared.tenants.Tenant.{Tenant}
pub use Rattle.cql_tenants.specs.declared.stream.Stream.{Stream}
pub use Rattle.cql_tenants.specs.Granted.{Grant}
pub use Rattle.cql_tenants.specs.declared.namespace.Namespace.{Namespace}
use Rattle.cql_tenants.specs.Named.{same_name, find_named}

abbrev pub empty_namespace : List ℕ → Quotas → Namespace
empty_namespace name quotas = record { name = name; quotas = quotas; streams = []; granted = [] }

abbrev pub no_namespace : Namespace
no_namespace = empty_namespace [] (record { streams = 0; queries = 0; hold = 0; result = 0 })

-- the directory before the first command
abbrev pub nothing_made : List Tenant → List Namespace
nothing_made table = map (λ t. empty_namespace t.name t.quotas) table

abbrev pub has_tenant : List Namespace → ℕ → Bool
has_tenant namespaces tenant = nat_lt tenant (length namespaces)

abbrev pub namespace_at : List Namespace → ℕ → Namespace
namespace_at namespaces index = get_or namespaces index no_namespace

abbrev pub change_namespace : (Namespace → Namespace) → List Namespace → ℕ → List Namespace
change_namespace f namespaces index = set namespaces index (f (namespace_at namespaces index))

-- the index of the tenant of that name: the caller's own name is the caller itself
abbrev pub tenant_named : List Namespace → ℕ → List ℕ → Option ℕ
tenant_named namespaces user name = if same_name name (namespace_at namespaces user).name then Some user else position (λ namespace. same_name name namespace.name) namespaces

abbrev pub stream_at : List Namespace → ℕ → List ℕ → Option Stream
stream_at namespaces owner name = find_named (namespace_at namespaces owner).streams name

-- it is a grant of that stream
abbrev pub is_of : ℕ → List ℕ → Grant → Bool
is_of owner name grant = (owner == grant.owner) && same_name name grant.stream

-- the grant of a stream to the tenant of a namespace
abbrev pub grant_of : Namespace → ℕ → List ℕ → Option Grant
grant_of namespace owner name = find (is_of owner name) namespace.granted

-- the tenant at an index has a grant of that stream
abbrev pub has_grant : List Namespace → ℕ → List ℕ → ℕ → Bool
has_grant namespaces owner name index = is_some (grant_of (namespace_at namespaces index) owner name)

-- a namespace without that grant
abbrev pub without_grant : ℕ → List ℕ → Namespace → Namespace
without_grant owner name namespace = record namespace { granted = filter (λ grant. not (is_of owner name grant)) namespace.granted }
