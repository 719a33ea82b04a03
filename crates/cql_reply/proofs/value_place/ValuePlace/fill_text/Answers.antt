use Rattle.std.proofs.lemmas.Bool.{false≢true}
use Rattle.std.proofs.lemmas.Grind.{common_steps}
use Rattle.std.proofs.Common.{arith, sym}
use Rattle.cql_reply.proofs.value_place.ValuePlace.fill_text.Goals as goal

pub returns-else-not-has_room-clause-told : goal.returns-else-not-has_room-clause-told
returns-else-not-has_room-clause-told c = grind (arith, common_steps)

pub push-requires : goal.push-requires
push-requires c = omega arith

pub returns-in-At-clause-full : goal.returns-in-At-clause-full
returns-in-At-clause-full c = λ e. omega arith

pub returns-else-not-has_room-clause-full : goal.returns-else-not-has_room-clause-full
returns-else-not-has_room-clause-full c = λ e. omega arith

pub returns-then-not-has_room-clause-full : goal.returns-then-not-has_room-clause-full
returns-then-not-has_room-clause-full c = λ e. grind (arith, common_steps)

pub returns-then-not-has_room-clause-done : goal.returns-then-not-has_room-clause-done
returns-then-not-has_room-clause-done c = λ e. absurd (false≢true e)

pub returns-in-Told-clause-full : goal.returns-in-Told-clause-full
returns-in-Told-clause-full c = λ e. absurd (false≢true (sym e))
