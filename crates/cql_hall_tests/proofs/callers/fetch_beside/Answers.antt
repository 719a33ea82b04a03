use denote.Param.Send.{IsSend, sendable}
use Rattle.std.proofs.vec.Vec.TheSendSync as vec
use Rattle.std.proofs.alloc.Global.TheSendSync as heap
use Rattle.std.below.std_heap.proofs.GlobalAllocator.TheSendSync as frees
use Rattle.cql_hall.proofs.Crosses.{hall_sync, kept_row_send, receipt_row_send}
use Rattle.cql_hall_tests.specs.contracts.callers.Caller as caller
use Rattle.cql_hall_tests.proofs.holding.Holding.TheSendSync as holding
use Rattle.cql_hall_tests.proofs.callers.fetch_beside.Goals as goal

-- A caller may go to another thread.
caller_send : IsSend (caller.the_field).row
caller_send = search (sendable, vec.the_send, heap.the_send, frees.the_frees, receipt_row_send) depth 20

caller_row_send : IsSend caller.the_row
caller_row_send = search (sendable, caller_send) depth 20

pub join-first-requires-send-F : goal.join-first-requires-send-F
join-first-requires-send-F g c κs within = search (sendable, heap.the_sync, hall_sync, kept_row_send, caller_row_send, holding.the_sync) depth 20
