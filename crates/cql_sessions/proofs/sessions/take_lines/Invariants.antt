use Rattle.std.proofs.Common.{◌≡◌, ℕ, List, ◌++◌, false, length}
use Rattle.cql_sessions.specs.Seating.{HasReached}
use Rattle.cql_sessions.proofs.sessions.take_lines.Given as goal

abbrev pub invariant-loop-rest : goal.invariant-loop-rest
invariant-loop-rest g l = record {
  kept : l.state.is_kept ≡ l.initial.state.is_kept;
  going : l.state.is_held ≡ false;
  input : l.state.is_ended ≡ l.initial.state.is_ended;
  seats : (used : List ℕ) × (l.bytes ≡ used ++ l.rest) × ((came : List ℕ) → HasReached l.service.table.now came l.initial.state → HasReached l.service.table.now (came ++ used) l.state);
}

abbrev pub decreases-loop-rest : goal.decreases-loop-rest
decreases-loop-rest g l = length l.rest
