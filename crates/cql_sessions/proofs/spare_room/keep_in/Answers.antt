use Rattle.std.proofs.Common.{arith}
use Rattle.std.proofs.lemmas.Grind.{common_steps}
use Rattle.cql_sessions.proofs.spare_room.keep_in.Goals as goal

pub returns-then-is_ok-clause-same : goal.returns-then-is_ok-clause-same
returns-then-is_ok-clause-same c = rw c.swap.ensures.x_after (grind (arith, common_steps))

pub returns-then-is_ok-clause-size : goal.returns-then-is_ok-clause-size
returns-then-is_ok-clause-size c = λ some. rw c.swap.ensures.x_after (omega arith)
