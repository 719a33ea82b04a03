use Rattle.std.proofs.lemmas.Bool.{false≢true}
use Rattle.std.proofs.Common.{arith, sym}
use Rattle.std.proofs.lemmas.Grind.{common_steps}
use Rattle.cql_reply.proofs.Pieces.{piece_told, next_piece}
use Rattle.cql_reply.proofs.piece_place.PiecesPlace.fill.Goals as goal

pub returns-then-not-fill-clause-told : goal.returns-then-not-fill-clause-told
returns-then-not-fill-clause-told c =
    piece_told c.loop-piece.room.bytes c.fill.new.room.bytes _ c.args.pieces.now c.loop-piece.self.index c.in-Some.piece.now c.loop-piece.self.inner c.fill.new.self c.in-Some.ensures.lookup.3.0 c.in-Some.ensures.lookup.1 c.fill.ensures.told c.loop-piece.invariant.0

pub loop-piece-preserved : goal.loop-piece-preserved
loop-piece-preserved c = (
  next_piece c.loop-piece.room.bytes c.fill.new.room.bytes _ c.args.pieces.now c.loop-piece.self.index c.in-Some.piece.now c.loop-piece.self.inner c.fill.new.self c.start-self.result c.in-Some.ensures.lookup.3.0 c.in-Some.ensures.lookup.1 c.fill.ensures.told c.loop-piece.invariant.0 (c.fill.ensures.done c.if-not-fill.false) c.start-self.ensures,
  omega arith,
  grind (arith, common_steps),
)

pub returns-clause-done : goal.returns-clause-done
returns-clause-done c = grind (arith, common_steps)

pub returns-then-not-fill-clause-grows : goal.returns-then-not-fill-clause-grows
returns-then-not-fill-clause-grows c = omega arith

pub loop-piece-smaller : goal.loop-piece-smaller
loop-piece-smaller c = grind (arith, common_steps)

pub overflow_add-self : goal.overflow_add-self
overflow_add-self c = grind (arith, common_steps)

pub returns-then-not-fill-clause-full : goal.returns-then-not-fill-clause-full
returns-then-not-fill-clause-full c = λ e. omega arith

pub returns-then-not-fill-clause-done : goal.returns-then-not-fill-clause-done
returns-then-not-fill-clause-done c = λ e. grind (arith, common_steps)

pub returns-clause-full : goal.returns-clause-full
returns-clause-full c = λ e. absurd (false≢true (sym e))
