-- Benches may go from one thread to another, and their pool may be shared.
use denote.RattleType.{RattleType}
use denote.Param.Send.{IsSend, IsSync, sendable}
use denote.Ref.{NamedLft}
use Rattle.std.proofs.vec.Vec.TheSendSync as vec
use Rattle.std.proofs.sync.Arc.TheSendSync as arc
use Rattle.std.proofs.sync.Mutex.TheSendSync as mutex
use Rattle.std.proofs.alloc.Global.TheSendSync as heap
use Rattle.std.proofs.Crossing.{crosses}
use Rattle.std.below.std_heap.proofs.GlobalAllocator.TheSendSync as frees
use Rattle.lru.proofs.cache.LruCache.TheSendSync as lru
use Rattle.cql_ops.proofs.bench.BlockOf.TheSendSync as block
use Rattle.cql_ops.proofs.cancellation.Cancellation.TheSendSync as cancellation
use Rattle.cql_ops.specs.contracts.bench.BenchOf as bench_type
use Rattle.cql_ops.specs.declared.operator.Operator.{Ghosts as OperatorGhosts}
use Rattle.cql_eval.proofs.shown.LastTold.TheSendSync as last_told
use Rattle.cql_eval.specs.contracts.warm.LastAnswer as kept
use Rattle.cql_eval.specs.contracts.warm.Warm as warm
use Rattle.cql_eval.specs.contracts.pool.Pool as pool
use Rattle.cql_eval.specs.contracts.pool.Pooled as pooled
use Rattle.cql_core.proofs.CrossCores.{pin_send, pin_sync}
use Rattle.cql_benches.specs.contracts.answers.Answers as answers
use Rattle.cql_benches.specs.contracts.answers.Desk as desk
use Rattle.cql_benches.specs.contracts.answers.UnderWay as under_way
use Rattle.cql_benches.specs.contracts.shared_pool.Borrower as borrower
use Rattle.cql_benches.specs.contracts.shared_pool.SharedPool as shared_pool

pub kept_send : IsSend kept.the_row
kept_send = search (sendable, arc.the_send, heap.the_send, heap.the_sync, frees.the_frees, pin_send, pin_sync, last_told.the_field_send) depth 20

under_way_send : IsSend (under_way.the_field).row
under_way_send = search (crosses, sendable, cancellation.the_field_send) depth 20

under_way_row_send : IsSend under_way.the_row
under_way_row_send = search (sendable, under_way_send) depth 20

desk_send : IsSend (desk.the_field).row
desk_send = search (crosses, sendable, under_way_row_send) depth 30

desk_row_send : IsSend desk.the_row
desk_row_send = search (sendable, desk_send) depth 20

answers_sync : IsSync (answers.the_field).row
answers_sync = search (crosses, sendable, desk_row_send) depth 30

pub answers_row_sync : IsSync answers.the_row
answers_row_sync = search (sendable, answers_sync) depth 20

module _ (O : RattleType) (g : OperatorGhosts O.Denot) where
  pub bench_send : IsSend O → IsSend (bench_type.the_row O g)
  bench_send s = search (crosses, sendable, block.the_field_send, cancellation.the_field_send) depth 20

  pub warm_send : IsSend O → IsSend (warm.the_row O g)
  warm_send s = let b = bench_send s in search (crosses, sendable, vec.the_send, heap.the_send, frees.the_frees, kept_send) depth 20

  pub pool_send : IsSend O → IsSend (pool.the_row O g)
  pool_send s = let w = warm_send s in search (crosses, sendable, vec.the_send, lru.the_send, heap.the_send, heap.the_sync, frees.the_frees) depth 30

  pub pool_sync : IsSend O → IsSync (shared_pool.the_row O g)
  pool_sync s = let p = pool_send s in search (sendable, mutex.the_sync, answers_sync) depth 20

module _ (a : NamedLft) (R O : RattleType) (g : OperatorGhosts O.Denot) where
  pub borrower_send : IsSync R → IsSend O → IsSend (borrower.the_row a R O g)
  borrower_send r s = let p = pool_sync O g s in search (sendable, cancellation.the_field_send) depth 20

  pub borrowing_send : IsSync R → IsSend O → IsSend (pooled.the_row O (borrower.the_row a R O g) g)
  borrowing_send r s = let b = bench_send O g s in let w = borrower_send r s in search sendable depth 20
