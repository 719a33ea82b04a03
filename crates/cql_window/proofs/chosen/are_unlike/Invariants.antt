use Rattle.std.proofs.Common.{◌≡◌, length}
use Rattle.cql_window.specs.Chosen.{are_unlike}
use Rattle.cql_window.proofs.chosen.are_unlike.Given as goal

-- it is left to the names that are left
abbrev pub invariant-loop-first : goal.invariant-loop-first
invariant-loop-first l = are_unlike l.rest ≡ are_unlike l.names

abbrev pub decreases-loop-first : goal.decreases-loop-first
decreases-loop-first l = length l.rest
