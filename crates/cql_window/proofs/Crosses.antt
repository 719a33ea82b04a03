-- A pin may go to another thread, and be shared with it.
use denote.Param.Send.{IsSend, IsSync, sendable}
use Rattle.cql_chunks.proofs.Crosses.{chunks_send, chunks_sync}
use Rattle.cql_window.proofs.window.Window.TheSendSync as window
use Rattle.cql_window.specs.contracts.window_pin.WindowPin as window_pin

pub window_pin_send : IsSend window_pin.the_row
window_pin_send = search (sendable, window.the_send, window.the_field_send, chunks_send) depth 20

pub window_pin_sync : IsSync window_pin.the_row
window_pin_sync = search (sendable, window.the_sync, window.the_field_sync, chunks_sync) depth 20
