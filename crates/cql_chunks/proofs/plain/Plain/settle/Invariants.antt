use Rattle.std.proofs.Common.{◌≡◌}
use Rattle.cql_chunks.proofs.plain.Plain.settle.Given as goal

abbrev pub invariant-loop : goal.invariant-loop
invariant-loop l = l.self ≡ l.initial.self
