-- The trees of written expressions and conditions may go to another thread, and be shared with it: they hold nothing of a thread's own.
use denote.RattleType.{RattleType}
use denote.Enum.Declared.{row, declared}
use denote.Hole.FixSend.{Sends, Syncs, fix_send, fix_sync}
use denote.Param.Send.{IsSend, IsSync, sendable}
use denote.Param.SendFields.{variants_send, variants_sync}
use Rattle.sqlite_items.proofs.boxed.Boxed.TheSendSync as crosses
use Rattle.cql_syntax.proofs.syntax.Comparison.TheSendSync as comparison
use Rattle.cql_syntax.proofs.syntax.Constant.TheSendSync as constant
use Rattle.cql_syntax.proofs.syntax.Operand.TheSendSync as operand
use Rattle.cql_syntax.proofs.syntax.Operation.TheSendSync as operation
use Rattle.cql_syntax.proofs.syntax.QualifiedName.TheSendSync as qualifiedname
use Rattle.cql_syntax.specs.contracts.syntax.Expression as expression
use Rattle.cql_syntax.specs.contracts.syntax.Expression.TheKnot as expression_knot
use Rattle.cql_syntax.specs.declared.syntax.Expression.TheBlock as expression_block
use Rattle.cql_syntax.specs.contracts.syntax.Condition as written_condition
use Rattle.cql_syntax.specs.contracts.syntax.Condition.TheKnot as written_condition_knot
use Rattle.cql_syntax.specs.declared.syntax.Condition.TheBlock as written_condition_block
use Rattle.cql_plan.proofs.CrossTrees.{boxed_send, boxed_sync}

expression_layer_send : (R : RattleType) → IsSend R → IsSend (row (declared (expression_knot.type-Expression R R R)))
expression_layer_send R s = variants_send (expression_knot.type-Expression R R R) ((search (sendable, constant.the_send), tt), ((search (sendable, qualifiedname.the_send), tt), ((boxed_send R s, tt), ((search (sendable, operation.the_send), (boxed_send R s, (boxed_send R s, tt))), tt))))

expression_sends : (i : expression_block.the_members) → Sends expression.the_ring i
expression_sends expression_block.member-Expression = record { send = λ h s. expression_layer_send (h expression_block.member-Expression) (s expression_block.member-Expression) }

expression_hole_send : IsSend expression.the_hole
expression_hole_send = fix_send expression.the_ring expression_sends expression_block.member-Expression

pub expression_send : IsSend (expression.the_field).row
expression_send = search (sendable, constant.the_field_send, qualifiedname.the_field_send, crosses.the_send expression.the_hole expression_hole_send, operation.the_field_send) depth 20

expression_layer_sync : (R : RattleType) → IsSync R → IsSync (row (declared (expression_knot.type-Expression R R R)))
expression_layer_sync R s = variants_sync (expression_knot.type-Expression R R R) ((search (sendable, constant.the_sync), tt), ((search (sendable, qualifiedname.the_sync), tt), ((boxed_sync R s, tt), ((search (sendable, operation.the_sync), (boxed_sync R s, (boxed_sync R s, tt))), tt))))

expression_syncs : (i : expression_block.the_members) → Syncs expression.the_ring i
expression_syncs expression_block.member-Expression = record { sync = λ h s. expression_layer_sync (h expression_block.member-Expression) (s expression_block.member-Expression) }

expression_hole_sync : IsSync expression.the_hole
expression_hole_sync = fix_sync expression.the_ring expression_syncs expression_block.member-Expression

pub expression_sync : IsSync (expression.the_field).row
expression_sync = search (sendable, constant.the_field_sync, qualifiedname.the_field_sync, crosses.the_sync expression.the_hole expression_hole_sync, operation.the_field_sync) depth 20

written_condition_layer_send : (R : RattleType) → IsSend R → IsSend (row (declared (written_condition_knot.type-Condition R R R R R R)))
written_condition_layer_send R s = variants_send (written_condition_knot.type-Condition R R R R R R) ((search (sendable, operand.the_send), (search (sendable, comparison.the_send), (search (sendable, operand.the_send), tt))), ((boxed_send R s, tt), ((boxed_send R s, tt), ((boxed_send R s, (boxed_send R s, tt)), ((boxed_send R s, (boxed_send R s, tt)), tt)))))

written_condition_sends : (i : written_condition_block.the_members) → Sends written_condition.the_ring i
written_condition_sends written_condition_block.member-Condition = record { send = λ h s. written_condition_layer_send (h written_condition_block.member-Condition) (s written_condition_block.member-Condition) }

written_condition_hole_send : IsSend written_condition.the_hole
written_condition_hole_send = fix_send written_condition.the_ring written_condition_sends written_condition_block.member-Condition

pub written_condition_send : IsSend (written_condition.the_field).row
written_condition_send = search (sendable, operand.the_field_send, comparison.the_field_send, crosses.the_send written_condition.the_hole written_condition_hole_send) depth 20

pub written_condition_row_send : IsSend written_condition.the_row
written_condition_row_send = search (sendable, written_condition_send) depth 20

written_condition_layer_sync : (R : RattleType) → IsSync R → IsSync (row (declared (written_condition_knot.type-Condition R R R R R R)))
written_condition_layer_sync R s = variants_sync (written_condition_knot.type-Condition R R R R R R) ((search (sendable, operand.the_sync), (search (sendable, comparison.the_sync), (search (sendable, operand.the_sync), tt))), ((boxed_sync R s, tt), ((boxed_sync R s, tt), ((boxed_sync R s, (boxed_sync R s, tt)), ((boxed_sync R s, (boxed_sync R s, tt)), tt)))))

written_condition_syncs : (i : written_condition_block.the_members) → Syncs written_condition.the_ring i
written_condition_syncs written_condition_block.member-Condition = record { sync = λ h s. written_condition_layer_sync (h written_condition_block.member-Condition) (s written_condition_block.member-Condition) }

written_condition_hole_sync : IsSync written_condition.the_hole
written_condition_hole_sync = fix_sync written_condition.the_ring written_condition_syncs written_condition_block.member-Condition

pub written_condition_sync : IsSync (written_condition.the_field).row
written_condition_sync = search (sendable, operand.the_field_sync, comparison.the_field_sync, crosses.the_sync written_condition.the_hole written_condition_hole_sync) depth 20

pub written_condition_row_sync : IsSync written_condition.the_row
written_condition_row_sync = search (sendable, written_condition_sync) depth 20
