use Rattle.std.proofs.Common.{arith}
use Rattle.std.proofs.lemmas.List.{map-append}
use Rattle.cql_plan.proofs.Joined.{one_more}
use Rattle.cql_plan.proofs.source.joined_of.Goals as goal

pub loop-source-preserved : goal.loop-source-preserved
loop-source-preserved c = grind (arith, c.in_ok-push.ensures.inputs, c.in_ok-push.ensures.ports, c.in_ok-push.ensures.row, c.loop-source.invariant, map-append, one_more)
