use Rattle.std.proofs.Common.{length}
use Rattle.cql_tests.specs.Pins.{AreFit}
use Rattle.cql_tests.proofs.pins.are_fit.Given as goal

-- it is left to the rows that are left
abbrev pub invariant-loop-first : goal.invariant-loop-first
invariant-loop-first l = AreFit l.left → AreFit l.rows

abbrev pub decreases-loop-first : goal.decreases-loop-first
decreases-loop-first l = length l.left
