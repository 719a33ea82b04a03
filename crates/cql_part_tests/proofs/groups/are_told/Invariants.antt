use Rattle.std.proofs.Common.{◌≤ℤ◌, length, pos}
use Rattle.cql_part_tests.proofs.groups.are_told.Given as goal

-- the key stays small
abbrev pub invariant-loop-change : goal.invariant-loop-change
invariant-loop-change l = (pos 0 ≤ℤ l.key) × (l.key ≤ℤ pos 100)

abbrev pub decreases-loop-change : goal.decreases-loop-change
decreases-loop-change l = length l.left
