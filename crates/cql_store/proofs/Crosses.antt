-- A store may go to another thread, and be shared with it.
use denote.Param.Send.{IsSend, IsSync, sendable}
use Rattle.std.proofs.alloc.Global.TheSendSync as heap
use Rattle.std.below.std_heap.proofs.GlobalAllocator.TheSendSync as frees
use Rattle.std.proofs.option.Option.TheSendSync as option
use Rattle.slab.proofs.Slab.TheSendSync as slab
use Rattle.cql_chunks.proofs.SeqCrosses.{waste_send, waste_sync}
use Rattle.cql_chunks.proofs.Crosses.{chunks_send, chunks_sync}
use Rattle.cql_window.proofs.window.Window.TheSendSync as window
use Rattle.cql_store.proofs.KeptCrosses as parts
use Rattle.cql_store.proofs.retention_index.RetentionIndex.TheSendSync as needs
use Rattle.cql_store.proofs.row_bytes.RowBytes.TheSendSync as bytes
use Rattle.cql_store.specs.contracts.stub.StubRows as kept
use Rattle.cql_store.specs.contracts.stub.Stub as stub
use Rattle.cql_store.specs.contracts.store.Store as store
use Rattle.cql_store.specs.contracts.store.Upkeep as upkeep

kept_send : IsSend kept.the_row
kept_send = search (sendable, option.the_send, parts.kept_send) depth 20

kept_sync : IsSync kept.the_row
kept_sync = search (sendable, option.the_sync, parts.kept_sync) depth 20

stub_send : IsSend (stub.the_field).row
stub_send = search (sendable, window.the_send, window.the_field_send, kept_send) depth 20

stub_row_send : IsSend stub.the_row
stub_row_send = search (sendable, stub_send) depth 20

stub_sync : IsSync (stub.the_field).row
stub_sync = search (sendable, window.the_sync, window.the_field_sync, kept_sync) depth 20

stub_row_sync : IsSync stub.the_row
stub_row_sync = search (sendable, stub_sync) depth 20

upkeep_send : IsSend (upkeep.the_field).row
upkeep_send = search (sendable, bytes.the_send, bytes.the_field_send) depth 20

upkeep_sync : IsSync (upkeep.the_field).row
upkeep_sync = search (sendable, bytes.the_sync, bytes.the_field_sync) depth 20

pub store_send : IsSend store.the_row
store_send = search (sendable, heap.the_send, heap.the_sync, frees.the_frees, chunks_send, slab.the_send, stub_row_send, needs.the_send, needs.the_field_send, waste_send, upkeep_send) depth 20

pub store_sync : IsSync store.the_row
store_sync = search (sendable, heap.the_send, heap.the_sync, frees.the_frees, chunks_sync, slab.the_sync, stub_row_sync, needs.the_sync, needs.the_field_sync, waste_sync, upkeep_sync) depth 20
