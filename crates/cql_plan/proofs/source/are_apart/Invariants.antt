use Rattle.std.proofs.Common.{◌≡◌, length}
use Rattle.cql_plan.specs.Sources.{are_apart}
use Rattle.cql_plan.proofs.source.are_apart.Given as goal

abbrev pub invariant-loop-first : goal.invariant-loop-first
invariant-loop-first l = are_apart l.rest ≡ are_apart l.sources

abbrev pub decreases-loop-first : goal.decreases-loop-first
decreases-loop-first l = length l.rest
