-- The callers who are connected may be shared by threads.
use denote.RattleType.{RattleType}
use denote.Struct.Declared.{shape}
use denote.Param.Send.{IsSend, IsSync, struct_send, struct_sync, sendable}
use denote.Ref.{NamedLft}
use Rattle.std.proofs.vec.Vec.TheSendSync as vec
use Rattle.std.proofs.collections.VecDeque.TheSendSync as deque
use Rattle.std.proofs.sync.Mutex.TheSendSync as mutex
use Rattle.std.proofs.alloc.Global.TheSendSync as heap
use Rattle.std.proofs.Crossing.{crosses, Box-send, Vec-send, Deque-send}
use Rattle.slab.proofs.Slab.TheSendSync as slab
use Rattle.std.below.std_heap.proofs.GlobalAllocator.TheSendSync as frees
use Rattle.cql_benches.proofs.BenchesCrosses.{answers_row_sync}
use Rattle.cql_connections.specs.contracts.connection_table.ConnectionTable as connections
use Rattle.cql_connections.specs.contracts.connection_table.Slot as slot
use Rattle.cql_connections.specs.contracts.connection_table.Awaiting as awaiting
use Rattle.cql_connections.specs.contracts.connection_table.Turn as turn
use Rattle.cql_connections.specs.contracts.scheduler.Scheduler as scheduler
use Rattle.cql_connections.specs.contracts.poller.Poller as poller
use Rattle.cql_connections.specs.contracts.places.Places as places
use Rattle.cql_connections.specs.contracts.run_queue.OwnerQueues as queues
use Rattle.cql_connections.specs.contracts.run_queue.RunQueue as run_queue

pub places_send : IsSend (places.the_field).row
places_send = search (crosses, sendable) depth 30

pub awaiting_row_send : IsSend awaiting.the_row
awaiting_row_send = search (crosses, sendable) depth 30

module _ (T : RattleType) where
  pub turn_send : IsSend T → IsSend (turn.the_field T).row
  turn_send s = struct_send (shape (turn.the_type T)) (
    search sendable,
    (
      let b = Box-send T s in search (sendable, b) depth 20,
      (search (crosses, sendable) depth 20, (search sendable, (search sendable, (search sendable, tt)))),
    ),
  )

  pub turn_row_send : IsSend T → IsSend (turn.the_row T)
  turn_row_send s = let t = turn_send s in search (sendable, t) depth 20

  pub slot_send : IsSend T → IsSend (slot.the_field T).row
  slot_send s = struct_send (shape (slot.the_type T)) (
    let b = Box-send T s in search (sendable, b) depth 20,
    (
      search (crosses, sendable) depth 20,
      (
        search sendable,
        (
          search (crosses, sendable) depth 20,
          (search sendable, (search sendable, (search sendable, (search sendable, (search sendable, tt))))),
        ),
      ),
    ),
  )

  pub slot_row_send : IsSend T → IsSend (slot.the_row T)
  slot_row_send s = let p = slot_send s in search (sendable, p) depth 20

  pub queues_send : IsSend T → IsSend (queues.the_row T)
  queues_send s = search (crosses, sendable, vec.the_send, deque.the_send, heap.the_send, frees.the_frees) depth 30

  pub run_queue_send : IsSend T → IsSend (run_queue.the_field T).row
  run_queue_send s = struct_send (shape (run_queue.the_type T)) (
    let q = queues_send s in search (sendable, q) depth 20,
    (
      let q = queues_send s in search (sendable, q) depth 20,
      (
        search sendable,
        (
          search sendable,
          (
            search sendable,
            (
              search (crosses, sendable) depth 30,
              (search (crosses, sendable) depth 30, (search (crosses, sendable) depth 30, (search sendable, tt))),
            ),
          ),
        ),
      ),
    ),
  )

module _ (T D : RattleType) where
  pub connections_send : IsSend T → IsSend D → IsSend (connections.the_field T D).row
  connections_send s e = struct_send (shape (connections.the_type T D)) (
    search sendable depth 20,
    (
      let p : Unit {0} → IsSend (slot.the_row T) = λ u. slot_row_send T s in search (sendable, slab.the_send, heap.the_send, frees.the_frees, p) depth 20,
      (
        places_send,
        (
          search sendable,
          (
            run_queue_send (turn.the_row T) (turn_row_send T s),
            (
              search sendable,
              (
                search (crosses, sendable) depth 30,
                (
                  search sendable,
                  (
                    Deque-send awaiting.the_row awaiting_row_send,
                    (
                      search sendable,
                      (let v = Vec-send D e in search (sendable, v) depth 20, (search sendable, (search sendable, (search sendable, (search sendable, tt))))),
                    ),
                  ),
                ),
              ),
            ),
          ),
        ),
      ),
    ),
  )

  pub connections_row_send : IsSend T → IsSend D → IsSend (connections.the_row T D)
  connections_row_send s e = let f = connections_send s e in search (sendable, f) depth 20

module _ (a : NamedLft) (T D : RattleType) where
  pub scheduler_sync : IsSend T → IsSend D → IsSync (scheduler.the_field a T D).row
  scheduler_sync s e = struct_sync (shape (scheduler.the_type a T D)) (
    search (crosses, sendable) depth 20,
    (
      search (sendable, answers_row_sync) depth 20,
      (
        search sendable,
        (
          let f : Unit {0} → IsSend (connections.the_row T D) = λ u. connections_row_send T D s e in search (sendable, mutex.the_sync, f) depth 20,
          (
            search (crosses, sendable) depth 30,
            (
              search (crosses, sendable) depth 30,
              (
                let l : Unit {0} → IsSend poller.the_row = λ u. search (crosses, sendable) depth 40 in search (sendable, mutex.the_sync, l) depth 20,
                (search (crosses, sendable) depth 30, (search (crosses, sendable) depth 30, (search (crosses, sendable) depth 30, (search (crosses, sendable) depth 30, tt)))),
              ),
            ),
          ),
        ),
      ),
    ),
  )

  pub scheduler_row_sync : IsSend T → IsSend D → IsSync (scheduler.the_row a T D)
  scheduler_row_sync s e = let h = scheduler_sync s e in search (sendable, h) depth 20
