use Rattle.std.proofs.Common.{◌≡◌, ◌+◌}
use Rattle.cql_store.specs.Sequence.{settled, AreKnown, AreWithin}
use Rattle.cql_store.proofs.retention_index.mark_few.Given as goal

abbrev pub invariant-loop : goal.invariant-loop
invariant-loop l =
    record {
      stubs : settled (l.came + 1) l.stubs.slots ≡ settled (l.came + 1) l.initial.stubs.slots;
      known : AreKnown (settled l.came l.stubs.slots) l.retention.firsts l.retention.limits;
      within : AreWithin (settled l.came l.stubs.slots);
    }
