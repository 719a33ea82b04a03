use Rattle.std.proofs.Common.{rules, sym, ap, ◌∙◌}
use denote.Enum.Bare.{same_true, sameb}
use Rattle.cql_sessions.specs.contracts.caller.LineOutcome.{the_type}
use Rattle.cql_sessions.specs.declared.caller.LineOutcome.TheVariants.{Held}
use Rattle.cql_lines.proofs.Writing.{on_err_always}
use Rattle.cql_sessions.proofs.Seating.{clash, blank_reached, answered_reached, held_reached, answered_stops}
use Rattle.cql_sessions.proofs.session_state.SessionState.answer_whole.Goals as goal

pub returns-then-not-counts-clause-seats : goal.returns-then-not-counts-clause-seats
returns-then-not-counts-clause-seats g c = λ going came faces.
    blank_reached c.args.service.now.table.now came c.args.self.now c.go_on.new.self (sym c.counts.ensures ∙ c.if-not-counts.true) c.go_on.ensures.gone faces

pub returns-in_err-outcome-clause-stops : goal.returns-in_err-outcome-clause-stops
returns-in_err-outcome-clause-stops g c =
    on_err_always c.from_residual.result
    (λ going came faces.
    answered_stops c.args.service.now.table.now came c.args.self.now c.answer.new.self (sym c.counts.ensures ∙ c.if-not-counts.false) (c.in_err-outcome.ensures.same.1, c.in_err-outcome.ensures.same.2, c.in_err-outcome.ensures.same.3) going faces c.in_err-outcome.ensures.stops)

pub returns-then-eq-clause-seats : goal.returns-then-eq-clause-seats
returns-then-eq-clause-seats g c = λ going came faces.
    held_reached c.args.service.now.table.now came c.args.self.now c.answer.new.self (sym c.counts.ensures ∙ c.if-not-counts.false) (c.in_ok-outcome.ensures.same.1, c.in_ok-outcome.ensures.same.2, c.in_ok-outcome.ensures.same.3) going faces
    (c.in_ok-outcome.ensures.answers.1 (same_true the_type (search rules) c.in_ok-outcome.outcome Held (sym c.if-eq.ensures))) c.in_ok-outcome.ensures.over

pub returns-else-eq-clause-seats : goal.returns-else-eq-clause-seats
returns-else-eq-clause-seats g c = λ going came faces.
    answered_reached c.args.service.now.table.now came c.args.self.now c.answer.new.self (sym c.counts.ensures ∙ c.if-not-counts.false) (c.in_ok-outcome.ensures.same.1, c.in_ok-outcome.ensures.same.2, c.in_ok-outcome.ensures.same.3) going faces c.go_on-else-eq.new.self
    (c.in_ok-outcome.ensures.answers.2 (λ e. clash c.eq.result (c.eq.ensures ∙ ap (λ o. sameb the_type o Held) e) c.if-eq.false)) c.in_ok-outcome.ensures.over c.go_on-else-eq.ensures.gone
