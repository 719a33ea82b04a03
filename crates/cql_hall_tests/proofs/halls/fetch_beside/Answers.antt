use denote.Param.Send.{sendable}
use Rattle.std.proofs.alloc.Global.TheSendSync as heap
use Rattle.cql_hall.proofs.hall.Seat.TheSendSync as seat
use Rattle.cql_hall_tests.proofs.holding.Holding.TheSendSync as holding
use Rattle.cql_hall.proofs.Crosses.{hall_sync, kept_row_send}
use Rattle.cql_hall_tests.proofs.halls.fetch_beside.Goals as goal

pub join-first-requires-send-F : goal.join-first-requires-send-F
join-first-requires-send-F g c κs within = search (sendable, heap.the_send, heap.the_sync, hall_sync, kept_row_send, seat.the_send, holding.the_sync) depth 20
