-- What the journal's file is to tell of a call.
use Rattle.std.specs.Prelude.{◌≡◌, ◌++◌, ◌∷◌, ℕ, List, [], IfSome, slice_get}
use Rattle.cql_tenants.specs.declared.tenants.Tenant.{Tenant}
use Rattle.cql_hall.specs.Queue.{Queued}
use Rattle.cql_journal.specs.Record.{record_lines}
use Rattle.cql_journal.specs.Making.{Making}

-- The record of a call, of its tenant's name and its line, stands behind those of a batch.
abbrev pub PutsBehind : List Tenant → Queued → Making → Making → Type 0
PutsBehind table call old new = IfSome (slice_get table call.tenant) (λ tenant. new ≡ record { chain = old.chain; text = old.text ++ record_lines old.chain (record { tenant = tenant.name; line = call.line } ∷ []) })
