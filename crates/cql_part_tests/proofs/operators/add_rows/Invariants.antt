use Rattle.std.specs.List.{All}
use Rattle.cql_part_tests.specs.Numbers.{IsComing}
use Rattle.cql_part_tests.proofs.operators.add_rows.Given as goal

-- each so far is one
abbrev pub invariant-loop-n : goal.invariant-loop-n
invariant-loop-n l = All (λ put. IsComing l.wide put.change) l.puts.items
