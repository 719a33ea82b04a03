use Rattle.std.proofs.lemmas.Grind.{common_steps}
use Rattle.std.proofs.Common.{arith}
use Rattle.cql_connections.proofs.run_queue.RunQueue.end_answer.Goals as goal

pub overflow_sub-index_mut : goal.overflow_sub-index_mut
overflow_sub-index_mut g c = grind (arith, common_steps)

pub returns-then-self-gt0-clause-spent : goal.returns-then-self-gt0-clause-spent
returns-then-self-gt0-clause-spent g c = grind (arith, common_steps)

pub returns-else-owner-len-clause-spent : goal.returns-else-owner-len-clause-spent
returns-else-owner-len-clause-spent g c = grind (arith, common_steps)

pub returns-else-owner-len-clause-ended : goal.returns-else-owner-len-clause-ended
returns-else-owner-len-clause-ended g c = grind (arith, common_steps)
