use Rattle.std.proofs.Common.{◌≡◌, ◌<◌, false, vec_len}
use Rattle.cql_lines.specs.Watched.{inner_of}
use Rattle.cql_sessions.specs.Seating.{IsNew}
use Rattle.cql_sessions.proofs.Seating.{SoFar}
use Rattle.cql_sessions.proofs.sessions.attend.Given as goal

abbrev pub invariant-loop : goal.invariant-loop
invariant-loop g l = record {
  kept : l.state.is_kept ≡ l.initial.state.is_kept;
  going : l.state.is_held ≡ false;
  room : 0 < vec_len l.buffers.chunk;
  so_far : IsNew l.fn.state → SoFar l.fn.service.table.now l.state (g.R.Read.remaining (inner_of l.fn.reader)) (g.R.Read.remaining (inner_of l.reader));
}
