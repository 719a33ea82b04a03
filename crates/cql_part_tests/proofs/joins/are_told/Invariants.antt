use Rattle.std.proofs.Common.{◌≤ℤ◌, pos}
use Rattle.cql_part_tests.proofs.joins.are_told.Given as goal

-- the number stays small
abbrev pub invariant-loop-change : goal.invariant-loop-change
invariant-loop-change l = (pos 0 ≤ℤ l.n) × (l.n ≤ℤ pos 100)
