-- Queries as they are planned may go to another thread, and be shared with it.
use denote.Param.Send.{IsSend, IsSync, sendable}
use Rattle.sqlite_items.proofs.items.Items.TheSendSync as items
use Rattle.cql_value.proofs.schema.ColumnType.TheSendSync as column_type
use Rattle.cql_plan.proofs.node.SetOp.TheSendSync as set_op
use Rattle.cql_plan.proofs.plan.Input.TheSendSync as input
use Rattle.cql_plan.proofs.plan.OutputKind.TheSendSync as output_kind
use Rattle.cql_plan.specs.contracts.node.Join as join
use Rattle.cql_plan.specs.contracts.node.Item as item
use Rattle.cql_plan.specs.contracts.node.Shape as shape
use Rattle.cql_plan.specs.contracts.node.Node as node
use Rattle.cql_plan.specs.contracts.plan.Branch as branch
use Rattle.cql_plan.specs.contracts.plan.Combined as combined
use Rattle.cql_plan.specs.contracts.plan.Planned as planned
use Rattle.cql_plan.specs.contracts.plan.Plan as plan
use Rattle.cql_plan.proofs.CrossTrees.{expr_send, expr_sync, condition_send, condition_sync}

pub join_send : IsSend (join.the_field).row
join_send = search (sendable, items.the_send, column_type.the_send, condition_send) depth 20

pub join_sync : IsSync (join.the_field).row
join_sync = search (sendable, items.the_sync, column_type.the_sync, condition_sync) depth 20

pub item_send : IsSend (item.the_field).row
item_send = search (sendable, expr_send) depth 20

pub item_row_send : IsSend item.the_row
item_row_send = search (sendable, item_send) depth 20

pub item_sync : IsSync (item.the_field).row
item_sync = search (sendable, expr_sync) depth 20

pub item_row_sync : IsSync item.the_row
item_row_sync = search (sendable, item_sync) depth 20

pub shape_send : IsSend (shape.the_field).row
shape_send = search (sendable, items.the_send, column_type.the_send, item_row_send) depth 20

pub shape_sync : IsSync (shape.the_field).row
shape_sync = search (sendable, items.the_sync, column_type.the_sync, item_row_sync) depth 20

pub node_send : IsSend (node.the_field).row
node_send = search (sendable, join_send, shape_send, items.the_send, column_type.the_send, set_op.the_field_send) depth 20

pub node_row_send : IsSend node.the_row
node_row_send = search (sendable, node_send) depth 20

pub node_sync : IsSync (node.the_field).row
node_sync = search (sendable, join_sync, shape_sync, items.the_sync, column_type.the_sync, set_op.the_field_sync) depth 20

pub node_row_sync : IsSync node.the_row
node_row_sync = search (sendable, node_sync) depth 20

pub branch_send : IsSend (branch.the_field).row
branch_send = search (sendable, node_send, node_row_send) depth 20

pub branch_sync : IsSync (branch.the_field).row
branch_sync = search (sendable, node_sync, node_row_sync) depth 20

pub combined_send : IsSend (combined.the_field).row
combined_send = search (sendable, branch_send, node_send) depth 20

pub combined_row_send : IsSend combined.the_row
combined_row_send = search (sendable, combined_send) depth 20

pub combined_sync : IsSync (combined.the_field).row
combined_sync = search (sendable, branch_sync, node_sync) depth 20

pub combined_row_sync : IsSync combined.the_row
combined_row_sync = search (sendable, combined_sync) depth 20

pub planned_send : IsSend (planned.the_field).row
planned_send = search (sendable, items.the_send, input.the_send, branch_send, combined_row_send, output_kind.the_field_send) depth 20

pub planned_sync : IsSync (planned.the_field).row
planned_sync = search (sendable, items.the_sync, input.the_sync, branch_sync, combined_row_sync, output_kind.the_field_sync) depth 20

pub plan_send : IsSend plan.the_row
plan_send = search (sendable, planned_send) depth 20

pub plan_sync : IsSync plan.the_row
plan_sync = search (sendable, planned_sync) depth 20
