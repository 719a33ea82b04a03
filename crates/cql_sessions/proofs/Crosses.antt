-- What sessions leave, and callers between their turns, may go from one thread to another.
use denote.Struct.Declared.{shape}
use denote.Param.Send.{IsSend, struct_send, sendable}
use Rattle.std.proofs.vec.Vec.TheSendSync as vec
use Rattle.std.proofs.alloc.Global.TheSendSync as heap
use Rattle.std.proofs.Crossing.{crosses}
use Rattle.std.below.std_heap.proofs.GlobalAllocator.TheSendSync as frees
use Rattle.cql_lines.proofs.intake.Intake.TheSendSync as intake
use Rattle.cql_hall.proofs.hall.Seat.TheSendSync as seat
use Rattle.cql_wire.proofs.held_reply.ReplyPlace.TheSendSync as place
use Rattle.cql_core.proofs.CrossCores.{reply_send}
use Rattle.cql_hall.proofs.Crosses.{receipt_row_send}
use Rattle.cql_wire.specs.contracts.held_reply.HeldReply as held
use Rattle.cql_sessions.specs.contracts.caller.Caller as caller
use Rattle.cql_sessions.specs.contracts.ending.Ending as ending
use Rattle.cql_sessions.specs.contracts.connection.Connection as connection
use Rattle.cql_sessions.specs.contracts.in_hand.Taking as taking
use Rattle.cql_sessions.specs.contracts.socket.Socket as socket
use Rattle.cql_sessions.specs.contracts.parting.Parting as parting
use Rattle.cql_sessions.specs.contracts.withheld.Withheld as withheld
use Rattle.cql_sessions.specs.contracts.session_state.SessionState as state

pub ending_send : IsSend (ending.the_field).row
ending_send = search (sendable, seat.the_send, vec.the_send, heap.the_send, frees.the_frees, receipt_row_send) depth 20

pub ending_row_send : IsSend ending.the_row
ending_row_send = search (sendable, ending_send) depth 20

pub held_send : IsSend (held.the_field).row
held_send = struct_send (shape held.the_type) (search (sendable, reply_send) depth 20, (place.the_field_send, (search sendable, tt)))

pub held_row_send : IsSend held.the_row
held_row_send = search (sendable, held_send) depth 20

pub taking_send : IsSend (taking.the_field).row
taking_send = search (sendable, held_row_send) depth 20

pub taking_row_send : IsSend taking.the_row
taking_row_send = search (sendable, taking_send) depth 20

pub caller_send : IsSend (caller.the_field).row
caller_send = struct_send (shape caller.the_type) (
  search (sendable, seat.the_send) depth 20,
  (
    search (sendable, vec.the_send, heap.the_send, frees.the_frees, receipt_row_send) depth 20,
    (search sendable, (search (sendable, taking_send) depth 20, (search sendable, tt))),
  ),
)

pub caller_row_send : IsSend caller.the_row
caller_row_send = search (sendable, caller_send) depth 20

pub state_send : IsSend (state.the_field).row
state_send = search (sendable, caller_row_send, intake.the_send) depth 20

pub state_row_send : IsSend state.the_row
state_row_send = search (sendable, state_send) depth 20

pub withheld_send : IsSend (withheld.the_field).row
withheld_send = search sendable depth 20

pub socket_send : IsSend (socket.the_field).row
socket_send = struct_send (shape socket.the_type) (
  search (crosses, sendable) depth 30,
  (
    search (crosses, sendable) depth 30,
    (
      search (crosses, sendable) depth 30,
      (
        search sendable,
        (search sendable, (search sendable, (search sendable, (search sendable, (search sendable, (search (sendable, withheld_send) depth 20, tt)))))),
      ),
    ),
  ),
)

pub parting_send : IsSend (parting.the_field).row
parting_send = search sendable depth 20

pub connection_send : IsSend (connection.the_field).row
connection_send = struct_send (shape connection.the_type) (
  search (sendable, socket_send) depth 20,
  (search (sendable, state_send) depth 20, (search (sendable, parting_send) depth 20, (search sendable, (search sendable, tt)))),
)

pub connection_row_send : IsSend connection.the_row
connection_row_send = search (sendable, connection_send) depth 20
