use Rattle.std.proofs.lemmas.Bool.{false≢true}
use Rattle.std.proofs.Common.{arith, ◌≡◌, ◌++◌, ap, ◌∙◌, append_assoc, sym}
use Rattle.std.proofs.lemmas.Grind.{common_steps}
use Rattle.cql_reply.specs.Line.{block_text}
use Rattle.cql_reply.specs.Place.{list_rest, block_rest, ending_text, line_from, line_rest}
use Rattle.cql_reply.proofs.Telling.{told_behind, told_to_end, line_begins, line_goes_on}
use Rattle.cql_reply.proofs.line_place.LinePlace.fill.Goals.{in-Beginning+else-not-has_room, in_default}
use Rattle.cql_reply.proofs.line_place.LinePlace.fill.Goals as goal

pub returns-then-not-fill-clause-told : goal.returns-then-not-fill-clause-told
returns-then-not-fill-clause-told c =
    let before : c.match-self.room.bytes ++ (list_rest block_text block_rest c.args.blocks.now c.match-self.self.blocks ++ ending_text c.args.next) ≡ c.args.room.now.bytes ++ line_rest c.args.blocks.now c.args.next c.args.self.now = elim c.match-self.branch [
      | in-Beginning+else-not-has_room w ↦ line_begins _ _ c.args.room.now w.put.new.self _ c.args.self.now _ w.in-Beginning.is w.put.ensures.bytes w.room-is w.self-is
      | in_default w ↦ line_goes_on _ _ c.args.room.now _ c.args.self.now _ c.in-Blocks.is w.room-is w.self-is
    ] in
    ap (λ stage. c.fill.new.room.bytes ++ line_from c.args.blocks.now c.args.next stage c.fill.new.self) c.in-Blocks.is
    ∙ told_behind c.match-self.room.bytes c.fill.new.room.bytes (list_rest block_text block_rest c.args.blocks.now c.match-self.self.blocks) (list_rest block_text block_rest c.args.blocks.now c.fill.new.self) (ending_text c.args.next) c.fill.ensures.told
    ∙ before

pub returns-else-not-has_room-2-clause-told : goal.returns-else-not-has_room-2-clause-told
returns-else-not-has_room-2-clause-told c =
    let before : c.match-self.room.bytes ++ (list_rest block_text block_rest c.args.blocks.now c.match-self.self.blocks ++ ending_text c.args.next) ≡ c.args.room.now.bytes ++ line_rest c.args.blocks.now c.args.next c.args.self.now = elim c.match-self.branch [
      | in-Beginning+else-not-has_room w ↦ line_begins _ _ c.args.room.now w.put.new.self _ c.args.self.now _ w.in-Beginning.is w.put.ensures.bytes w.room-is w.self-is
      | in_default w ↦ line_goes_on _ _ c.args.room.now _ c.args.self.now _ c.in-Blocks.is w.room-is w.self-is
    ] in
    told_to_end (c.match-self.room.bytes ++ list_rest block_text block_rest c.args.blocks.now c.match-self.self.blocks) c.fill.new.room.bytes (list_rest block_text block_rest c.args.blocks.now c.fill.new.self) (ending_text c.args.next) _ (c.args.room.now.bytes ++ line_rest c.args.blocks.now c.args.next c.args.self.now)
    c.fill.ensures.told (grind (arith, common_steps)) (grind (arith, common_steps)) (append_assoc c.match-self.room.bytes (list_rest block_text block_rest c.args.blocks.now c.match-self.self.blocks) (ending_text c.args.next) ∙ before)

pub returns-else-not-has_room-2-clause-grows : goal.returns-else-not-has_room-2-clause-grows
returns-else-not-has_room-2-clause-grows c = grind (arith, common_steps)

pub put-requires-in-Blocks : goal.put-requires-in-Blocks
put-requires-in-Blocks c = omega arith

pub put-requires-in-Blocks-2 : goal.put-requires-in-Blocks-2
put-requires-in-Blocks-2 c = omega arith

pub put-requires : goal.put-requires
put-requires c = omega arith

pub put_number-requires : goal.put_number-requires
put_number-requires c = omega arith

pub returns-then-not-fill-clause-grows : goal.returns-then-not-fill-clause-grows
returns-then-not-fill-clause-grows c = grind (arith, common_steps)

pub returns-then-not-has_room-clause-full : goal.returns-then-not-has_room-clause-full
returns-then-not-has_room-clause-full c = λ e. grind (arith, common_steps)

pub returns-then-not-fill-clause-size : goal.returns-then-not-fill-clause-size
returns-then-not-fill-clause-size c = grind (arith, common_steps)

pub returns-then-not-fill-clause-full : goal.returns-then-not-fill-clause-full
returns-then-not-fill-clause-full c = λ e. grind (arith, common_steps)

pub returns-else-not-has_room-2-clause-size : goal.returns-else-not-has_room-2-clause-size
returns-else-not-has_room-2-clause-size c = grind (arith, common_steps)

pub returns-then-not-fill-clause-done : goal.returns-then-not-fill-clause-done
returns-then-not-fill-clause-done c = λ e. absurd (false≢true e)

pub returns-then-not-has_room-clause-done : goal.returns-then-not-has_room-clause-done
returns-then-not-has_room-clause-done c = λ e. absurd (false≢true e)

pub returns-else-not-has_room-2-clause-full : goal.returns-else-not-has_room-2-clause-full
returns-else-not-has_room-2-clause-full c = λ e. absurd (false≢true (sym e))
