use Rattle.std.proofs.Common.{◌≤◌}
use Rattle.cql_syntax.specs.declared.syntax.Expression.{size-Expression}
use Rattle.cql_syntax.proofs.syntax.Expression.+drop.Given as goal

abbrev pub decreases-drop : goal.decreases-drop
decreases-drop l = goal.size-drop l

abbrev pub invariant-loop-self : goal.invariant-loop-self
invariant-loop-self l = size-Expression l.self ≤ size-Expression l.fn.self
