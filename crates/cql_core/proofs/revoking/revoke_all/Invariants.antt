use Rattle.std.proofs.Common.{◌≡◌, ◌≤◌, ◌++◌, take, drop}
use Rattle.cql_tenants.specs.Named.{each}
use Rattle.cql_store.specs.declared.stub_ref.StubRef.{StubRef}
use Rattle.cql_store.specs.Stores.{held_at}
use Rattle.cql_core.specs.Sound.{uses_of, lives}
use Rattle.cql_core.specs.Revoked.{revoked_at, AreAllStreams, Freed}
use Rattle.cql_core.proofs.revoking.revoke_all.Given as goal

-- those so far are closed where they stand on the stream
abbrev pub invariant-loop-index : goal.invariant-loop-index
invariant-loop-index l =
    (l.queries ≡ each (revoked_at l.owner l.stream) (take l.index l.initial.queries) ++ drop l.index l.initial.queries)
    × Freed l.initial.stores l.stores l.initial.queries l.queries
    × AreAllStreams l.stores l.queries
    × ((p : StubRef) → uses_of p l.queries ≤ lives (held_at l.stores p))
