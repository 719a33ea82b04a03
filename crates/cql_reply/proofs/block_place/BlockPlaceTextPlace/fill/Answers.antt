use Rattle.std.proofs.lemmas.Bool.{false≢true}
use Rattle.std.proofs.Common.{arith, ◌≡◌, ◌++◌, ap, ◌∙◌, sym}
use Rattle.std.proofs.lemmas.Grind.{common_steps}
use Rattle.cql_reply.specs.Place.{rows_rest, last_rows, tail_text, block_from, block_rest}
use Rattle.cql_reply.proofs.Telling.{told_behind}
use Rattle.cql_reply.proofs.block_place.BlockPlaceTextPlace.fill.Goals as goal

pub returns-then-not-fill-2-clause-told : goal.returns-then-not-fill-2-clause-told
returns-then-not-fill-2-clause-told c =
    let b = c.args.whole.now in
    let before : c.match-self-2.room.bytes ++ (rows_rest (last_rows b.output) c.match-self-2.self.rows ++ tail_text b.to) ≡ c.args.room.now.bytes ++ block_rest b c.args.self.now = grind (arith, common_steps) in
    let told : c.fill-in-Last.new.room.bytes ++ rows_rest (last_rows b.output) c.fill-in-Last.new.self ≡ c.match-self-2.room.bytes ++ rows_rest (last_rows b.output) c.match-self-2.self.rows = grind (arith, common_steps) in
    ap (λ stage. c.fill-in-Last.new.room.bytes ++ block_from b stage c.fill-in-Last.new.self) c.in-Last.is
    ∙ told_behind c.match-self-2.room.bytes c.fill-in-Last.new.room.bytes (rows_rest (last_rows b.output) c.match-self-2.self.rows) (rows_rest (last_rows b.output) c.fill-in-Last.new.self) (tail_text b.to) told
    ∙ before

pub returns-else-not-has_room-3-clause-grows : goal.returns-else-not-has_room-3-clause-grows
returns-else-not-has_room-3-clause-grows c = grind (arith, common_steps)

pub returns-then-not-fill-clause-told : goal.returns-then-not-fill-clause-told
returns-then-not-fill-clause-told c = grind (arith, common_steps)

pub returns-else-not-has_room-3-clause-told : goal.returns-else-not-has_room-3-clause-told
returns-else-not-has_room-3-clause-told c = grind (arith, common_steps)

pub put-requires-in-Last : goal.put-requires-in-Last
put-requires-in-Last c = omega arith

pub put_number-requires : goal.put_number-requires
put_number-requires c = omega arith

pub put_head-requires : goal.put_head-requires
put_head-requires c = omega arith

pub push-requires : goal.push-requires
push-requires c = omega arith

pub put-requires : goal.put-requires
put-requires c = omega arith

pub returns-then-not-fill-clause-grows : goal.returns-then-not-fill-clause-grows
returns-then-not-fill-clause-grows c = grind (arith, common_steps)

pub returns-then-not-fill-2-clause-grows : goal.returns-then-not-fill-2-clause-grows
returns-then-not-fill-2-clause-grows c = grind (arith, common_steps)

pub returns-then-not-has_room-clause-full : goal.returns-then-not-has_room-clause-full
returns-then-not-has_room-clause-full c = λ e. grind (arith, common_steps)

pub returns-then-not-fill-clause-full : goal.returns-then-not-fill-clause-full
returns-then-not-fill-clause-full c = λ e. grind (arith, common_steps)

pub returns-then-not-fill-2-clause-full : goal.returns-then-not-fill-2-clause-full
returns-then-not-fill-2-clause-full c = λ e. grind (arith, common_steps)

pub returns-then-not-fill-clause-size : goal.returns-then-not-fill-clause-size
returns-then-not-fill-clause-size c = grind (arith, common_steps)

pub returns-then-not-fill-2-clause-done : goal.returns-then-not-fill-2-clause-done
returns-then-not-fill-2-clause-done c = λ e. absurd (false≢true e)

pub returns-then-not-has_room-clause-done : goal.returns-then-not-has_room-clause-done
returns-then-not-has_room-clause-done c = λ e. absurd (false≢true e)

pub returns-then-not-fill-clause-done : goal.returns-then-not-fill-clause-done
returns-then-not-fill-clause-done c = λ e. absurd (false≢true e)

pub returns-else-not-has_room-3-clause-full : goal.returns-else-not-has_room-3-clause-full
returns-else-not-has_room-3-clause-full c = λ e. absurd (false≢true (sym e))
