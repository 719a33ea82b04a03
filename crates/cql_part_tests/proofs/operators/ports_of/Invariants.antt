use Rattle.std.specs.Prelude.{◌≡◌, replicate}
use Rattle.cql_part_tests.specs.Numbers.{columns_of}
use Rattle.cql_part_tests.proofs.operators.ports_of.Given as goal

-- so many so far
abbrev pub invariant-loop-done : goal.invariant-loop-done
invariant-loop-done l = l.ports.items ≡ replicate l.done (columns_of l.wide)
