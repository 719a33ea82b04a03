use Rattle.std.proofs.Common.{◌≡◌, length}
use Rattle.cql_bag.specs.Rest.{strike}
use Rattle.cql_bag.proofs.rest.strike.Given as goal

-- of what is left the same is left
abbrev pub invariant-loop-first : goal.invariant-loop-first
invariant-loop-first l = strike l.row l.left ≡ strike l.row l.others

abbrev pub decreases-loop-first : goal.decreases-loop-first
decreases-loop-first l = length l.left
