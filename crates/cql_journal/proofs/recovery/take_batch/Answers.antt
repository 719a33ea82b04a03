use Rattle.std.proofs.Common.{◌≡◌, Bool, true, false, not, refl, arith, ap, length}
use Rattle.cql_journal.proofs.Finding.{within, batch_within}
use Rattle.cql_journal.proofs.Recovering.{are_lines, took, stopped, stops_in, nothing_left, too_far}
use Rattle.cql_journal.proofs.recovery.take_batch.Goals as goal

is_whole : (b : Bool) → not b ≡ false → b ≡ true
is_whole true e = refl
is_whole false e = let no : true ≡ false = e in absurd cc

pub returns-in-Err : goal.returns-in-Err
returns-in-Err g c = stops_in _ _ _ c.args.place.now _ _ c.in-Err.ensures

pub returns-then-not-front : goal.returns-then-not-front
returns-then-not-front g c = nothing_left c.args.table.now _ _ _ _ c.args.place.now c.in-Ok.front c.in-Ok.ensures (grind arith)

pub split_at-requires : goal.split_at-requires
split_at-requires g c = omega (arith, ap length c.as_slice.ensures, within _ _ _ c.in-Ok.ensures.records)

pub replay_lines-requires-clause-lines : goal.replay_lines-requires-clause-lines
replay_lines-requires-clause-lines g c = are_lines _ _ _ _ _ c.split_at.ensures.front c.as_slice.ensures (c.in-Ok.ensures.batch (is_whole _ c.if-not-front.false))

pub returns-in-Err-replay_lines : goal.returns-in-Err-replay_lines
returns-in-Err-replay_lines g c =
    stopped c.args.table.now _ _ c.args.place.now _ _ _ _ (g.M.StateMachine.state c.args.machine.now) c.split_at.ensures.front c.as_slice.ensures (c.in-Ok.ensures.batch (is_whole _ c.if-not-front.false)) c.in-Ok.ensures.kept c.requires _ _ c.in-Err-replay_lines.ensures

pub place_behind-requires : goal.place_behind-requires
place_behind-requires g c = omega (arith, c.split_at.ensures.back_len, ap length c.as_slice.ensures, batch_within _ _ _ (c.in-Ok.ensures.batch (is_whole _ c.if-not-front.false)))

pub returns-in-None : goal.returns-in-None
returns-in-None g c =
    too_far c.args.table.now _ _ c.args.place.now _ _ _ _ (g.M.StateMachine.state c.args.machine.now) c.split_at.ensures.front c.as_slice.ensures (c.in-Ok.ensures.batch (is_whole _ c.if-not-front.false)) c.in-Ok.ensures.kept (omega (arith, c.in-None.ensures.none))

pub consume-requires : goal.consume-requires
consume-requires g c = batch_within _ _ _ (c.in-Ok.ensures.batch (is_whole _ c.if-not-front.false))

pub returns-in-Some : goal.returns-in-Some
returns-in-Some g c =
    took c.args.table.now _ _ c.args.place.now _ _ _ _ (g.M.StateMachine.state c.args.machine.now) c.split_at.ensures.front c.as_slice.ensures (c.in-Ok.ensures.batch (is_whole _ c.if-not-front.false)) c.in-Ok.ensures.kept c.requires _ _ _ _ c.in-Some.next c.split_at.ensures.back c.consume.ensures
    c.in-Ok-replay_lines.ensures c.in-Some.ensures.some.0 c.in-Some.ensures.some.1 c.in-Some.ensures.some.2
