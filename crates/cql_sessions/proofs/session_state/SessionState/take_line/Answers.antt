use Rattle.std.proofs.Common.{◌++◌, take, ◌∙◌}
use Rattle.cql_lines.proofs.Writing.{on_err_always}
use Rattle.cql_sessions.proofs.Seating.{not_is_true, not_is_false, part_reached, whole_faces, same_served_behind, state_unended, whole_stops}
use Rattle.cql_sessions.proofs.session_state.SessionState.take_line.Goals as goal

pub returns-in_err-taken-clause-stops : goal.returns-in_err-taken-clause-stops
returns-in_err-taken-clause-stops g c =
    on_err_always c.from_residual.result (λ going came reached. same_served_behind c.args.service.now.table.now came c.args.bytes.now c.args.self.now _ c.requires going reached)

pub returns-then-not-taken-clause-seats : goal.returns-then-not-taken-clause-seats
returns-then-not-taken-clause-seats g c = λ going came reached.
    part_reached c.args.service.now.table.now came c.args.bytes.now c.args.self.now _ c.in_ok-taken.taken c.requires c.in_ok-taken.ensures.ok (not_is_true _ c.if-not-taken.true) going reached

pub returns-in_err-outcome-clause-stops : goal.returns-in_err-outcome-clause-stops
returns-in_err-outcome-clause-stops g c =
    on_err_always c.from_residual-in_err-outcome.result
    (λ going came reached.
    whole_stops c.args.service.now.table.now came c.args.bytes.now c.in_ok-taken.taken.count _ _ (c.in_err-outcome.ensures.same.1 ∙ state_unended c.args.service.now.table.now came c.args.self.now c.requires going reached)
    (c.in_err-outcome.ensures.stops going (came ++ take c.in_ok-taken.taken.count c.args.bytes.now)
    (whole_faces c.args.service.now.table.now came c.args.bytes.now c.args.self.now _ c.in_ok-taken.taken c.requires c.in_ok-taken.ensures.ok (not_is_false _ c.if-not-taken.false) going reached)))

pub returns-clause-seats : goal.returns-clause-seats
returns-clause-seats g c = λ going came reached.
    c.in_ok-outcome.ensures.seats going (came ++ take c.in_ok-taken.taken.count c.args.bytes.now)
    (whole_faces c.args.service.now.table.now came c.args.bytes.now c.args.self.now _ c.in_ok-taken.taken c.requires c.in_ok-taken.ensures.ok (not_is_false _ c.if-not-taken.false) going reached)
