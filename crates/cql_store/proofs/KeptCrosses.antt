-- Kept rows may go to another thread, and be shared with it.
use denote.Param.Send.{IsSend, IsSync, sendable}
use Rattle.std.proofs.sync.Arc.TheSendSync as arc
use Rattle.std.proofs.alloc.Global.TheSendSync as heap
use Rattle.std.below.std_heap.proofs.GlobalAllocator.TheSendSync as frees
use Rattle.std.proofs.vec.Vec.TheSendSync as vec
use Rattle.cql_chunks.proofs.SeqCrosses.{seq_send, seq_sync}
use Rattle.cql_store.specs.contracts.kept_parts.KeptParts as kept

pub kept_send : IsSend kept.the_row
kept_send = search (sendable, seq_send, seq_sync, vec.the_send, vec.the_sync, arc.the_send, heap.the_send, heap.the_sync, frees.the_frees) depth 20

pub kept_sync : IsSync kept.the_row
kept_sync = search (sendable, seq_send, seq_sync, vec.the_send, vec.the_sync, arc.the_sync, heap.the_send, heap.the_sync, frees.the_frees) depth 20
