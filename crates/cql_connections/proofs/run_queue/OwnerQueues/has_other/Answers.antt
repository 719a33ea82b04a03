use Rattle.std.proofs.Common.{arith}
use Rattle.cql_connections.proofs.Alone.{many_wait, one_waits, none_wait}
use Rattle.cql_connections.proofs.run_queue.OwnerQueues.has_other.Goals as goal

pub returns-in-Some : goal.returns-in-Some
returns-in-Some g c = grind (arith, many_wait, one_waits, none_wait)

pub returns-then-len-gt1 : goal.returns-then-len-gt1
returns-then-len-gt1 g c = grind (arith, many_wait, one_waits, none_wait)

pub returns-in-None : goal.returns-in-None
returns-in-None g c = grind (arith, many_wait, one_waits, none_wait)
