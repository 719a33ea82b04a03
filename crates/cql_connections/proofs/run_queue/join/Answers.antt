use Rattle.std.proofs.Common.{arith}
use Rattle.std.proofs.lemmas.Grind.{common_steps}
use Rattle.cql_connections.proofs.run_queue.join.Goals as goal

pub returns-else-is_first : goal.returns-else-is_first
returns-else-is_first c = record { items = grind (arith, common_steps) }
