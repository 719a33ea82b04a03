use Rattle.std.proofs.Common.{arith}
use Rattle.cql_connections.proofs.run_queue.RunQueue.may_begin.Goals as goal

pub overflow_sub-share : goal.overflow_sub-share
overflow_sub-share g c = omega arith

pub index-busy-requires : goal.index-busy-requires
index-busy-requires g c = omega arith
