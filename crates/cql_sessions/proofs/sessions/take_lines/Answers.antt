use Rattle.std.proofs.Common.{◌++◌, [], take, refl, sym, ◌∙◌}
use Rattle.cql_lines.proofs.Writing.{moves_front}
use Rattle.cql_sessions.proofs.Seating.{clash, nowhere, further, none_left, used_served, used_stops, all_used}
use Rattle.cql_sessions.proofs.sessions.take_lines.Goals as goal

pub loop-rest-init : goal.loop-rest-init
loop-rest-init g c = record {
  kept = refl;
  going = c.requires;
  input = refl;
  seats = ([], refl, nowhere c.args.service.now.table.now c.args.state.now);
}

pub loop-rest-preserved : goal.loop-rest-preserved
loop-rest-preserved g c =
    let (used, is, seats) = c.loop-rest.invariant.seats in
    let rest = c.loop-rest.rest.now in
    let count = c.in_ok-step.step.count in
    record {
      kept = c.in_ok-step.ensures.same.0 ∙ c.loop-rest.invariant.kept;
      going = c.in_ok-step.ensures.going refl;
      input = c.in_ok-step.ensures.same.1 ∙ c.loop-rest.invariant.input;
      seats = (
        used ++ take count rest,
        moves_front c.args.bytes.now used rest count is,
        further c.args.service.now.table.now c.args.state.now c.loop-rest.state c.take_line.new.self used (take count rest) seats (c.in_ok-step.ensures.seats c.if-not-state.true),
      );
    }

pub returns-in_err-step-clause-served : goal.returns-in_err-step-clause-served
returns-in_err-step-clause-served g c =
    let (used, is, seats) = c.loop-rest.invariant.seats in
    used_stops c.args.service.now.table.now c.args.state.now c.loop-rest.state c.take_line.new.self c.args.bytes.now used c.loop-rest.rest.now is seats (c.in_err-step.ensures.stops c.if-not-state.true)

pub returns-else-not-state-clause-served : goal.returns-else-not-state-clause-served
returns-else-not-state-clause-served g c =
    let (used, is, seats) = c.loop-rest.invariant.seats in
    used_served c.args.service.now.table.now c.args.state.now c.loop-rest.state c.args.bytes.now used c.loop-rest.rest.now is c.loop-rest.invariant.input seats

pub returns-else-not-state-clause-seats : goal.returns-else-not-state-clause-seats
returns-else-not-state-clause-seats g c = λ going. clash c.loop-rest.state.is_over c.if-not-state.false going

pub returns-after-loop-rest-clause-served : goal.returns-after-loop-rest-clause-served
returns-after-loop-rest-clause-served g c =
    let (used, is, seats) = c.loop-rest.invariant.seats in
    used_served c.args.service.now.table.now c.args.state.now c.loop-rest.state c.args.bytes.now used c.loop-rest.rest.now is c.loop-rest.invariant.input seats

pub returns-after-loop-rest-clause-seats : goal.returns-after-loop-rest-clause-seats
returns-after-loop-rest-clause-seats g c =
    let (used, is, seats) = c.loop-rest.invariant.seats in
    λ going. all_used c.args.service.now.table.now c.args.state.now c.loop-rest.state c.args.bytes.now used c.loop-rest.rest.now is (none_left c.loop-rest.rest.now (sym c.is_empty.ensures ∙ c.loop-rest-test.false)) seats
