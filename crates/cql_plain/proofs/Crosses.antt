-- The operators of joins and of items may go to another thread.
use denote.Param.Send.{IsSend, sendable}
use Rattle.std.proofs.alloc.Global.TheSendSync as heap
use Rattle.std.proofs.vec.Vec.TheSendSync as vec
use Rattle.std.below.std_heap.proofs.GlobalAllocator.TheSendSync as frees
use Rattle.std.below.core.proofs.snapshot.Sent.{snapshot_send}
use Rattle.cql_bag.proofs.bag.Bag.TheSendSync as bag
use Rattle.cql_bag.proofs.change.Change.TheSendSync as change
use Rattle.cql_plain.specs.contracts.log.Log as log
use Rattle.cql_plain.specs.contracts.filtered.Filtered as filtered
use Rattle.cql_plain.specs.contracts.projected.Projected as projected
use Rattle.cql_plain.specs.contracts.join_rows.JoinRows as join_rows
use Rattle.cql_plain.specs.contracts.plain_shape.Work as work
use Rattle.cql_plain.specs.contracts.plain_join.PlainJoin as plain_join
use Rattle.cql_plain.specs.contracts.plain_shape.PlainShape as plain_shape
use Rattle.cql_plain.proofs.made.MadeRows.TheSendSync as made
use Rattle.cql_plain.proofs.recomputed.Recomputed.TheSendSync as recomputed
use Rattle.cql_ops.proofs.meter.Meter.TheSendSync as meter
use Rattle.cql_plan.proofs.CrossQueries.{join_send, shape_send}

-- what was told and let go has no bytes
log_send : IsSend log.the_row
log_send = search (sendable, heap.the_send, frees.the_frees, vec.the_send, snapshot_send, change.the_field_send) depth 20

filtered_send : IsSend (filtered.the_field).row
filtered_send = search (sendable, log_send) depth 20

projected_send : IsSend (projected.the_field).row
projected_send = search (sendable, heap.the_send, frees.the_frees, vec.the_send, log_send, change.the_field_send, made.the_field_send) depth 20

join_rows_send : IsSend (join_rows.the_field).row
join_rows_send = search (sendable, filtered_send, recomputed.the_field_send) depth 20

work_send : IsSend (work.the_field).row
work_send = search (sendable, projected_send, bag.the_send) depth 20

pub plain_join_send : IsSend plain_join.the_row
plain_join_send = search (sendable, heap.the_send, join_send, join_rows_send, meter.the_field_send) depth 20

pub plain_shape_send : IsSend plain_shape.the_row
plain_shape_send = search (sendable, heap.the_send, shape_send, work_send, meter.the_field_send) depth 20
