use Rattle.std.proofs.Common.{◌≤◌, length}
use Rattle.cql_chunks.proofs.waste.Waste.settle_rows.Given as goal

abbrev pub invariant-loop : goal.invariant-loop
invariant-loop l = length l.rows.items ≤ length l.initial.rows.items
