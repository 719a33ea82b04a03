use Rattle.std.proofs.lemmas.Grind.{common_steps}
use Rattle.std.proofs.Common.{ap, sym, ◌∙◌, ◌++◌, arith}
use Rattle.cql_reply.specs.Pieces.{piece_of, piece_rest}
use Rattle.cql_reply.proofs.Pieces.{told_names, names_told}
use Rattle.cql_reply.proofs.piece_place.PiecePlace.fill.Goals as goal

pub returns-in-Names-clause-told : goal.returns-in-Names-clause-told
returns-in-Names-clause-told c =
    ap (λ p. c.fill.new.room.bytes ++ piece_rest (piece_of p) (record { at = c.args.self.now.at; names = c.fill.new.self })) c.in-Names.is
    ∙ told_names c.in-Names.columns.now c.args.room.now.bytes c.fill.new.room.bytes c.args.self.now.names c.fill.new.self c.fill.ensures.told
    ∙ ap (λ p. c.args.room.now.bytes ++ piece_rest (piece_of p) c.args.self.now) (sym c.in-Names.is)

pub returns-in-Names-clause-done : goal.returns-in-Names-clause-done
returns-in-Names-clause-done c = λ told.
    ap (λ p. piece_rest (piece_of p) (record { at = c.args.self.now.at; names = c.fill.new.self })) c.in-Names.is ∙ names_told c.in-Names.columns.now c.fill.new.self (c.fill.ensures.done told)

pub returns-in-Escaped-clause-done : goal.returns-in-Escaped-clause-done
returns-in-Escaped-clause-done c = grind (arith, common_steps)

pub returns-in-Plain-clause-done : goal.returns-in-Plain-clause-done
returns-in-Plain-clause-done c = grind (arith, common_steps)

pub returns-in-Plain-clause-told : goal.returns-in-Plain-clause-told
returns-in-Plain-clause-told c = grind (arith, common_steps)

pub returns-in-Escaped-clause-told : goal.returns-in-Escaped-clause-told
returns-in-Escaped-clause-told c = grind (arith, common_steps)

pub returns-in-Names-clause-within : goal.returns-in-Names-clause-within
returns-in-Names-clause-within c = omega arith

pub returns-in-Escaped-clause-within : goal.returns-in-Escaped-clause-within
returns-in-Escaped-clause-within c = grind (arith, common_steps)

pub returns-in-Number-clause-told : goal.returns-in-Number-clause-told
returns-in-Number-clause-told c = grind (arith, common_steps)

pub returns-in-Number-clause-within : goal.returns-in-Number-clause-within
returns-in-Number-clause-within c = grind (arith, common_steps)

pub returns-in-Plain-clause-within : goal.returns-in-Plain-clause-within
returns-in-Plain-clause-within c = grind (arith, common_steps)

pub returns-in-Number-clause-done : goal.returns-in-Number-clause-done
returns-in-Number-clause-done c = λ e. grind (arith, common_steps)
