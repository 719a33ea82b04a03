use Rattle.cql_part_tests.specs.Numbers.{HasOver}
use Rattle.cql_part_tests.proofs.operators.begin.Given as goal

-- the operator is as it was started
abbrev pub invariant-loop-put : goal.invariant-loop-put
invariant-loop-put g l = HasOver l.feed.base.ports l.feed.base.wide (g.O.Operator.model_of l.op)
