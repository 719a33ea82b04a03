-- How far a query is behind what its streams have told.
use Rattle.std.specs.Prelude.{◌≡◌, ℕ, ◌-◌, ◌≤◌, ◌<◌, List, Option, Some, None, IfSome, if◌then◌else◌}
use Rattle.cql_tenants.specs.Named.{find_named}
use Rattle.cql_tenants.specs.declared.namespace.Namespace.{Namespace}
use Rattle.cql_core.specs.Machine.{State, Live, queries_at, limit_in, is_revoked}

-- the ticks from its cursor to the least time that its streams still take; none of one that was revoked
abbrev pub lag_in : List Namespace → Live → Option ℕ
lag_in namespaces q = if is_revoked q then None else Some (limit_in namespaces q.plan - q.cursor)

abbrev pub lag_found : List Namespace → Option Live → Option ℕ
lag_found namespaces None = None
lag_found namespaces (Some q) = lag_in namespaces q

-- that of a tenant's query by its name; none where there is no such query
abbrev pub lag_of : State → ℕ → List ℕ → Option ℕ
lag_of s tenant name = lag_found s.namespaces (find_named (queries_at s.queries tenant) name)

-- no query of the tenant is further behind; and one is so far, unless that is 0
pub record IsGreatestLag (s : State) (tenant lag : ℕ) : Type 0 where
  pub most : (name : List ℕ) → IfSome (lag_of s tenant name) (λ ticks. ticks ≤ lag)
  pub one : 0 < lag → (name : List ℕ) × (lag_of s tenant name ≡ Some lag)
