-- Each so far holds its rows.
use Rattle.std.proofs.Common.{◌≡◌, All, Some}
use Rattle.cql_core.specs.StreamId.{stream_id_of}
use Rattle.cql_core.specs.Rows.{rows_held}
use Rattle.cql_core.proofs.machine.Core.held_streams.Given as goal

abbrev pub invariant-loop-stream : goal.invariant-loop-stream
invariant-loop-stream l = All (λ h. rows_held l.self (stream_id_of l.owner h.name) ≡ Some h.rows) l.held.items
