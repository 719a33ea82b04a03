-- The operator of shapes that keeps groups may go to another thread.
use denote.Param.Send.{IsSend, sendable}
use Rattle.cql_groups.proofs.keyed_shape.ShapeState.TheSendSync as kept
use Rattle.sqlite_items.proofs.items.Items.TheSendSync as items
use Rattle.cql_groups.proofs.accumulator.AccumulatorKind.TheSendSync as asked
use Rattle.cql_groups.proofs.layout.ItemSource.TheSendSync as source
use Rattle.cql_groups.specs.contracts.layout.Layout as layout
use Rattle.cql_groups.specs.contracts.keyed_shape.KeyedShape as keyed_shape
use Rattle.cql_groups.specs.contracts.group_shape.EitherShape as way
use Rattle.cql_groups.specs.contracts.group_shape.GroupShape as group_shape
use Rattle.cql_ops.proofs.meter.Meter.TheSendSync as meter
use Rattle.cql_ops.proofs.cancellation.Cancellation.TheSendSync as cancellation
use Rattle.cql_plain.proofs.Crosses.{plain_shape_send}
use Rattle.cql_plan.proofs.CrossQueries.{shape_send}

layout_send : IsSend (layout.the_field).row
layout_send = search (sendable, items.the_send, shape_send, asked.the_send, source.the_send) depth 20

keyed_shape_send : IsSend keyed_shape.the_row
keyed_shape_send = search (sendable, layout_send, kept.the_field_send, meter.the_field_send) depth 20

way_send : IsSend (way.the_field).row
way_send = search (sendable, plain_shape_send, keyed_shape_send) depth 20

pub group_shape_send : IsSend group_shape.the_row
group_shape_send = search (sendable, way_send, cancellation.the_field_send) depth 20
