use Rattle.std.proofs.Common.{◌≡◌}
use Rattle.cql_plan.specs.Sources.{joined_of}
use Rattle.cql_plan.proofs.source.joined_of.Given as goal

-- what the inputs so far give
abbrev pub invariant-loop-source : goal.invariant-loop-source
invariant-loop-source l = l.joined ≡ joined_of l.yielded
