use Rattle.std.proofs.lemmas.Grind.{common_steps}
use Rattle.std.proofs.Common.{arith}
use Rattle.cql_connections.proofs.run_queue.RunQueue.hold_up.Goals as goal

pub returns-in_default-clause-held_up : goal.returns-in_default-clause-held_up
returns-in_default-clause-held_up g c = grind (arith, common_steps)
