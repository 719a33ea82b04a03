use Rattle.std.specs.List.{All}
use Rattle.cql_part_tests.specs.Numbers.{IsComing}
use Rattle.cql_part_tests.proofs.operators.puts_of.Given as goal

-- each so far is one
abbrev pub invariant-loop-rows : goal.invariant-loop-rows
invariant-loop-rows l = All (λ put. IsComing l.wide put.change) l.puts.items
