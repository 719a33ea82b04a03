-- A list of rows may go to another thread, and be shared with it.
use denote.Param.Send.{IsSend, IsSync, sendable}
use Rattle.std.proofs.sync.Arc.TheSendSync as arc
use Rattle.std.proofs.alloc.Global.TheSendSync as heap
use Rattle.std.below.std_heap.proofs.GlobalAllocator.TheSendSync as frees
use Rattle.cql_chunks.proofs.SeqCrosses.{seq_send, seq_sync}
use Rattle.cql_chunks.proofs.plain.Plain.TheSendSync as plain
use Rattle.cql_chunks.specs.contracts.tree_rows.TreeRows as tree
use Rattle.cql_chunks.specs.contracts.chunks.Form as form
use Rattle.cql_chunks.specs.contracts.chunks.Chunks as chunks

tree_send : IsSend tree.the_row
tree_send = search (sendable, seq_send, seq_sync, arc.the_send, heap.the_send, heap.the_sync, frees.the_frees) depth 20

tree_sync : IsSync tree.the_row
tree_sync = search (sendable, seq_send, seq_sync, arc.the_sync, heap.the_send, heap.the_sync, frees.the_frees) depth 20

form_send : IsSend (form.the_field).row
form_send = search (sendable, plain.the_send, tree_send) depth 20

form_sync : IsSync (form.the_field).row
form_sync = search (sendable, plain.the_sync, tree_sync) depth 20

pub chunks_send : IsSend chunks.the_row
chunks_send = search (sendable, form_send) depth 20

pub chunks_sync : IsSync chunks.the_row
chunks_sync = search (sendable, form_sync) depth 20
