-- A list, and what is left of lists, may go to another thread, and be shared with it.
use denote.RattleType.{RattleType}
use denote.Param.Send.{IsSend, IsSync, sendable}
use Rattle.std.proofs.vec.Vec.TheSendSync as vec
use Rattle.std.proofs.sync.Arc.TheSendSync as arc
use Rattle.std.proofs.alloc.Global.TheSendSync as heap
use Rattle.std.below.std_heap.proofs.GlobalAllocator.TheSendSync as frees
use Rattle.std.specs.contracts.sync.Arc as Arc
use Rattle.std.specs.contracts.alloc.Global as Global
use Rattle.std.specs.contracts.impls.GlobalAllocator.TheImpl as TheImpl
use Rattle.cql_value.proofs.timed.Timed.TheSendSync as timed
use Rattle.cql_chunks.proofs.seq.Numbered.TheSendSync as numbered
use Rattle.cql_chunks.proofs.seq.Seq.TheLaws.TheKnot.{both_send-Seq, both_sync-Seq}
use Rattle.cql_chunks.specs.contracts.seq.Seq as seq
use Rattle.cql_chunks.specs.contracts.waste.Waste as waste

arc_send : (R : RattleType) → IsSend R → IsSync R → IsSend (Arc.the_row R Global.the_row TheImpl.ghosts)
arc_send R s y = arc.the_send R Global.the_row TheImpl.ghosts s heap.the_send y heap.the_sync frees.the_frees

arc_sync : (R : RattleType) → IsSend R → IsSync R → IsSync (Arc.the_row R Global.the_row TheImpl.ghosts)
arc_sync R s y = arc.the_sync R Global.the_row TheImpl.ghosts s heap.the_send y heap.the_sync frees.the_frees

pub seq_send : IsSend seq.the_row
seq_send = both_send-Seq arc_send (search (sendable, numbered.the_send, numbered.the_field_send) depth 20) (search sendable) (search sendable) arc_sync (search (sendable, numbered.the_sync, numbered.the_field_sync) depth 20) (search sendable) (search sendable)

pub seq_sync : IsSync seq.the_row
seq_sync = both_sync-Seq arc_send (search (sendable, numbered.the_send, numbered.the_field_send) depth 20) (search sendable) (search sendable) arc_sync (search (sendable, numbered.the_sync, numbered.the_field_sync) depth 20) (search sendable) (search sendable)

pub waste_send : IsSend (waste.the_field).row
waste_send = search (sendable, seq_send, seq_sync, timed.the_send, vec.the_send, arc.the_send, heap.the_send, heap.the_sync, frees.the_frees) depth 20

pub waste_sync : IsSync (waste.the_field).row
waste_sync = search (sendable, seq_send, seq_sync, timed.the_sync, vec.the_sync, arc.the_sync, heap.the_send, heap.the_sync, frees.the_frees) depth 20
