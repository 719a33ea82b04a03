use Rattle.std.proofs.Common.{◌≤◌}
use Rattle.cql_syntax.specs.declared.syntax.Condition.{size-Condition}
use Rattle.cql_syntax.proofs.syntax.Condition.+drop.Given as goal

abbrev pub decreases-drop : goal.decreases-drop
decreases-drop l = goal.size-drop l

abbrev pub invariant-loop-self : goal.invariant-loop-self
invariant-loop-self l = size-Condition l.self ≤ size-Condition l.fn.self
