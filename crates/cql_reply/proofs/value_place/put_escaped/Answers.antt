use Rattle.std.proofs.lemmas.Grind.{common_steps}
use Rattle.std.proofs.Common.{arith}
use Rattle.cql_reply.proofs.value_place.put_escaped.Goals as goal

pub overflow_add-at : goal.overflow_add-at
overflow_add-at c = omega arith

pub loop-at-smaller : goal.loop-at-smaller
loop-at-smaller c = grind (arith, common_steps)

pub loop-at-preserved : goal.loop-at-preserved
loop-at-preserved c = grind (arith, common_steps)

pub returns-else-has_room-clause-full : goal.returns-else-has_room-clause-full
returns-else-has_room-clause-full c = grind (arith, common_steps)

pub put_run-at-requires : goal.put_run-at-requires
put_run-at-requires c = omega arith
