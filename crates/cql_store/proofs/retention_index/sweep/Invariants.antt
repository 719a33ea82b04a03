use Rattle.std.proofs.Common.{◌≡◌}
use Rattle.cql_store.specs.Sequence.{AreMarkedIn, settled}
use Rattle.cql_store.proofs.retention_index.sweep.Given as goal

abbrev pub invariant-loop-slot : goal.invariant-loop-slot
invariant-loop-slot l =
    record {
      same : settled l.count l.stubs.slots ≡ settled l.count l.initial.stubs.slots;
      firsts : l.retention.firsts ≡ l.initial.retention.firsts;
      limits : l.retention.limits ≡ l.initial.retention.limits;
      place : l.retention.swept ≡ l.slot;
      done : AreMarkedIn l.count l.stubs.slots l.initial.retention.swept l.slot;
    }
