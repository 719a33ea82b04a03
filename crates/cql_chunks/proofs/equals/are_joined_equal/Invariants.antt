use Rattle.std.proofs.Common.{◌≡◌, ◌↔◌, ◌++◌, length}
use Rattle.cql_chunks.proofs.equals.are_joined_equal.Given as goal

abbrev pub invariant-loop-left : goal.invariant-loop-left
invariant-loop-left l = (l.left ++ (l.first ++ l.second) ≡ l.right ++ (l.third ++ l.fourth)) ↔ (l.initial.first ++ l.initial.second ≡ l.initial.third ++ l.initial.fourth)

abbrev pub decreases-loop-left : goal.decreases-loop-left
decreases-loop-left l = length (l.left ++ (l.first ++ l.second))
