-- What the quotas bound, after any commands: the streams and queries of each tenant, the windows of each query, the rows that each of them is charged, and the rows that each stream holds.
use Rattle.std.specs.Prelude.{◌≡◌, ◌⊎◌, ℕ, ◌+◌, ◌≤◌, true, List, [], ◌∷◌, length, max, Some, None}
use Rattle.std.specs.List.{AllByRecursion}
use Rattle.cql_tenants.specs.Named.{Named}
use Rattle.cql_store.specs.Held.{Held}
use Rattle.cql_plan.specs.Plan.{IsFew}
use Rattle.cql_tenants.specs.declared.tenants.Quotas.{Quotas}
use Rattle.cql_tenants.specs.declared.tenants.Tenant.{Tenant}
use Rattle.cql_tenants.specs.Namespace.{nothing_made, namespace_at}
use Rattle.cql_core.specs.declared.command.Command.{Command}
use Rattle.cql_core.specs.StreamId.{StreamId}
use Rattle.cql_core.specs.Language.{Language}
use Rattle.cql_core.specs.Machine.{Stub, Live, State, opening, queries_at, stubs_left}
use Rattle.cql_core.specs.Rows.{stubs_of, rows_held}
use Rattle.cql_core.specs.Law.{state_from}

-- a tenant's quotas in the table; a tenant that isn't in it has none of anything
abbrev pub quotas_in : List Tenant → ℕ → Quotas
quotas_in table tenant = (namespace_at (nothing_made table) tenant).quotas

-- the rows that a stub is charged: those in its window, and those behind it that wait, for their time or for a slide
abbrev pub charged : Held → ℕ
charged h = length h.content + length h.unseen

-- a stub's hold is its tenant's quota, and whatever its window it is charged no more than that, also where its content is kept beside the store; one that is overrun is charged none
pub record IsChargedWithin (quota : ℕ) (h : Held) : Type 0 where
  pub hold : h.hold ≡ quota
  pub most : charged h ≤ quota
  pub none : h.overrun ≡ true → charged h ≡ 0

-- a query has 1 to 6 inputs, and a stub for each of them, or none where it was revoked; each is charged within the quota
pub record IsWithinHold (quota : ℕ) (q : Live) : Type 0 where
  pub few : IsFew q.plan.plan
  pub stubs : (q.stubs ≡ None) ⊎ (length (stubs_left q) ≡ length q.plan.plan.inputs)
  pub charges : AllByRecursion (λ stub. IsChargedWithin quota stub.held) (stubs_left q)

-- the hold where there is a stub among these, else 0
abbrev pub hold_for : ℕ → List Stub → ℕ
hold_for hold [] = 0
hold_for hold (stub ∷ stubs) = hold

-- the greatest hold of those tenants who have a query with a stub on the stream that isn't overrun, 0 without one
abbrev pub greatest_hold : StreamId → List Tenant → List (List (Named Live)) → ℕ
greatest_hold stream_id [] queries = 0
greatest_hold stream_id (t ∷ ts) [] = 0
greatest_hold stream_id (t ∷ ts) (qs ∷ rest) = max (hold_for t.quotas.hold (stubs_of stream_id qs)) (greatest_hold stream_id ts rest)

-- no stream holds more rows than the greatest hold of the tenants who read it, and no tenant has more than its quotas
pub record AreWithinQuotas (table : List Tenant) (s : State) : Type 0 where
  pub rows : (stream_id : StreamId) (n : ℕ) → rows_held s stream_id ≡ Some n → n ≤ greatest_hold stream_id table s.queries
  pub streams : (tenant : ℕ) → length (namespace_at s.namespaces tenant).streams ≤ (quotas_in table tenant).streams
  pub queries : (tenant : ℕ) → length (queries_at s.queries tenant) ≤ (quotas_in table tenant).queries
  pub holds : (tenant : ℕ) → AllByRecursion (λ q. IsWithinHold (quotas_in table tenant).hold q.item) (queries_at s.queries tenant)

-- so it is after any commands
abbrev pub IsHeldWithinQuotasLaw : Language → Type 0
IsHeldWithinQuotasLaw language = (table : List Tenant) (calls : List (ℕ × Command)) → AreWithinQuotas table (state_from language (opening table) calls)
