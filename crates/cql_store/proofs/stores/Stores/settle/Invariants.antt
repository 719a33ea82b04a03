use Rattle.std.proofs.Common.{◌≡◌}
use Rattle.cql_store.proofs.stores.Stores.settle.Given as goal

abbrev pub invariant-loop : goal.invariant-loop
invariant-loop l = l.self-inside.owners.items ≡ l.initial.self-inside.owners.items
