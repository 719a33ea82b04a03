use Rattle.std.proofs.lemmas.Grind.{common_steps}
use Rattle.std.proofs.Common.{arith, ◌∙◌, refl}
use Rattle.cql_sessions.proofs.Seating.{begins, nobody_yet, reads_on, reads_served, going_served}
use Rattle.cql_sessions.proofs.sessions.attend.Goals as goal

pub loop-init : goal.loop-init
loop-init g c = record {
  kept = refl;
  going = c.requires;
  room = omega (arith, c.in_ok-buffers.ensures.room);
  so_far = λ new. begins c.args.service.now.table.now _ _ (record { caller = new.caller; line = c.in_ok-state.ensures; held = new.held; ended = new.ended; over = new.over });
}

pub returns-in_err-read_once-clause-served : goal.returns-in_err-read_once-clause-served
returns-in_err-read_once-clause-served g c = λ new.
    reads_served c.args.service.now.table.now c.loop.state c.read_once.new.state _ _ _ _ c.in_err-read_once.ensures.reads (c.loop.invariant.so_far new)

pub returns-in_err-flush-clause-served : goal.returns-in_err-flush-clause-served
returns-in_err-flush-clause-served g c = λ new.
    reads_served c.args.service.now.table.now c.loop.state c.read_once.new.state _ _ _ _ c.in_ok-read_once.ensures.reads (c.loop.invariant.so_far new)

pub returns-then-state-clause-served : goal.returns-then-state-clause-served
returns-then-state-clause-served g c = λ new.
    reads_served c.args.service.now.table.now c.loop.state c.read_once.new.state _ _ _ _ c.in_ok-read_once.ensures.reads (c.loop.invariant.so_far new)

pub loop-preserved : goal.loop-preserved
loop-preserved g c = record {
  kept = c.in_ok-read_once.ensures.kept ∙ c.loop.invariant.kept;
  going = c.in_ok-read_once.ensures.going;
  room = omega (arith, c.in_ok-read_once.ensures.room, c.loop.invariant.room);
  so_far = λ new.
      reads_on c.args.service.now.table.now c.loop.state c.read_once.new.state _ _ _ c.in_ok-read_once.ensures.going c.if-state.false c.in_ok-read_once.ensures.reads
      (c.loop.invariant.so_far new);
}

pub returns-in_err-state-clause-served : goal.returns-in_err-state-clause-served
returns-in_err-state-clause-served g c = λ new. nobody_yet c.args.service.now.table.now c.args.state.now _ new

pub returns-in_err-buffers-clause-served : goal.returns-in_err-buffers-clause-served
returns-in_err-buffers-clause-served g c = λ new. nobody_yet c.args.service.now.table.now c.args.state.now _ new

pub returns-clause-served : goal.returns-clause-served
returns-clause-served g c = λ new. going_served c.args.service.now.table.now c.loop.state _ _ (c.loop.invariant.so_far new)

pub returns-in_err-flush-clause-kept : goal.returns-in_err-flush-clause-kept
returns-in_err-flush-clause-kept g c = grind (arith, common_steps)

pub returns-then-state-clause-kept : goal.returns-then-state-clause-kept
returns-then-state-clause-kept g c = grind (arith, common_steps)

pub returns-in_err-read_once-clause-kept : goal.returns-in_err-read_once-clause-kept
returns-in_err-read_once-clause-kept g c = grind (arith, common_steps)

pub returns-clause-kept : goal.returns-clause-kept
returns-clause-kept g c = grind (arith, common_steps)

pub read_once-requires-clause-room : goal.read_once-requires-clause-room
read_once-requires-clause-room g c = grind (arith, common_steps)
