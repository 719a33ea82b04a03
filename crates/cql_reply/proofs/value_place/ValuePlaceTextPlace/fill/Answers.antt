use Rattle.std.proofs.lemmas.Bool.{false≢true}
use Rattle.std.proofs.lemmas.Grind.{common_steps}
use Rattle.std.proofs.Common.{arith, sym}
use Rattle.cql_reply.proofs.value_place.ValuePlaceTextPlace.fill.Goals as goal

pub returns-else-not-has_room-clause-grows : goal.returns-else-not-has_room-clause-grows
returns-else-not-has_room-clause-grows c = grind (arith, common_steps)

pub put_signed-requires : goal.put_signed-requires
put_signed-requires c = omega arith

pub returns-in-Text-clause-full : goal.returns-in-Text-clause-full
returns-in-Text-clause-full c = λ e. omega arith

pub returns-in-Text-clause-told : goal.returns-in-Text-clause-told
returns-in-Text-clause-told c = grind (arith, common_steps)

pub returns-in-Text-clause-done : goal.returns-in-Text-clause-done
returns-in-Text-clause-done c = λ e. grind (arith, common_steps)

pub returns-then-not-has_room-clause-full : goal.returns-then-not-has_room-clause-full
returns-then-not-has_room-clause-full c = λ e. grind (arith, common_steps)

pub returns-then-not-has_room-clause-done : goal.returns-then-not-has_room-clause-done
returns-then-not-has_room-clause-done c = λ e. absurd (false≢true e)

pub returns-else-not-has_room-clause-full : goal.returns-else-not-has_room-clause-full
returns-else-not-has_room-clause-full c = λ e. absurd (false≢true (sym e))
