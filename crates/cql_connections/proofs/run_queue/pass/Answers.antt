use Rattle.std.proofs.Common.{arith}
use Rattle.std.proofs.lemmas.Grind.{common_steps}
use Rattle.cql_connections.proofs.run_queue.pass.Goals as goal

pub returns-then-is_last : goal.returns-then-is_last
returns-then-is_last c = record { items = rw c.if-is_last.true (grind (arith, common_steps)) }
