-- Queries as they are written may go to another thread, and be shared with it.
use denote.Param.Send.{IsSend, IsSync, sendable}
use Rattle.sqlite_items.proofs.items.Items.TheSendSync as items
use Rattle.cql_value.proofs.name.Name.TheSendSync as name
use Rattle.cql_syntax.proofs.syntax.Aggregate.TheSendSync as aggregate
use Rattle.cql_syntax.proofs.syntax.Input.TheSendSync as written_input
use Rattle.cql_syntax.proofs.syntax.QualifiedName.TheSendSync as qualified
use Rattle.cql_syntax.proofs.syntax.SetOperator.TheSendSync as set_operator
use Rattle.cql_syntax.proofs.syntax.StreamOperator.TheSendSync as stream_operator
use Rattle.cql_syntax.specs.contracts.syntax.Shown as shown
use Rattle.cql_syntax.specs.contracts.syntax.Item as written_item
use Rattle.cql_syntax.specs.contracts.syntax.Selection as selection
use Rattle.cql_syntax.specs.contracts.syntax.SelectBlock as select_block
use Rattle.cql_syntax.specs.contracts.syntax.Second as second
use Rattle.cql_syntax.specs.contracts.syntax.Query as query
use Rattle.cql_text.specs.contracts.reader.Syntax as syntax
use Rattle.cql_plan.proofs.CrossWrittenTrees.{expression_send, expression_sync, written_condition_row_send, written_condition_row_sync}

pub shown_send : IsSend (shown.the_field).row
shown_send = search (sendable, expression_send, aggregate.the_field_send) depth 20

pub shown_sync : IsSync (shown.the_field).row
shown_sync = search (sendable, expression_sync, aggregate.the_field_sync) depth 20

pub written_item_send : IsSend (written_item.the_field).row
written_item_send = search (sendable, shown_send, name.the_send) depth 20

pub written_item_row_send : IsSend written_item.the_row
written_item_row_send = search (sendable, written_item_send) depth 20

pub written_item_sync : IsSync (written_item.the_field).row
written_item_sync = search (sendable, shown_sync, name.the_sync) depth 20

pub written_item_row_sync : IsSync written_item.the_row
written_item_row_sync = search (sendable, written_item_sync) depth 20

pub selection_send : IsSend (selection.the_field).row
selection_send = search (sendable, items.the_send, written_item_row_send) depth 20

pub selection_sync : IsSync (selection.the_field).row
selection_sync = search (sendable, items.the_sync, written_item_row_sync) depth 20

pub select_block_send : IsSend (select_block.the_field).row
select_block_send = search (sendable, selection_send, items.the_send, written_input.the_send, written_condition_row_send, qualified.the_send) depth 20

pub select_block_sync : IsSync (select_block.the_field).row
select_block_sync = search (sendable, selection_sync, items.the_sync, written_input.the_sync, written_condition_row_sync, qualified.the_sync) depth 20

pub second_send : IsSend (second.the_field).row
second_send = search (sendable, set_operator.the_field_send, select_block_send) depth 20

pub second_row_send : IsSend second.the_row
second_row_send = search (sendable, second_send) depth 20

pub second_sync : IsSync (second.the_field).row
second_sync = search (sendable, set_operator.the_field_sync, select_block_sync) depth 20

pub second_row_sync : IsSync second.the_row
second_row_sync = search (sendable, second_sync) depth 20

pub query_send : IsSend (query.the_field).row
query_send = search (sendable, stream_operator.the_send, select_block_send, second_row_send) depth 20

pub query_sync : IsSync (query.the_field).row
query_sync = search (sendable, stream_operator.the_sync, select_block_sync, second_row_sync) depth 20

pub syntax_send : IsSend syntax.the_row
syntax_send = search (sendable, query_send) depth 20

pub syntax_sync : IsSync syntax.the_row
syntax_sync = search (sendable, query_sync) depth 20
