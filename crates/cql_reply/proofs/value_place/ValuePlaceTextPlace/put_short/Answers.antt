use Rattle.std.proofs.lemmas.Bool.{false≢true}
use Rattle.std.proofs.lemmas.Grind.{common_steps}
use Rattle.std.proofs.Common.{arith, sym}
use Rattle.cql_reply.proofs.value_place.ValuePlaceTextPlace.put_short.Goals as goal

pub returns-in-Number-clause-grows : goal.returns-in-Number-clause-grows
returns-in-Number-clause-grows c = grind (arith, common_steps)

pub put_signed-requires : goal.put_signed-requires
put_signed-requires c = omega arith

pub returns-in_default-2-clause-told : goal.returns-in_default-2-clause-told
returns-in_default-2-clause-told c = λ e. absurd (false≢true e)

pub returns-in-Number-clause-none : goal.returns-in-Number-clause-none
returns-in-Number-clause-none c = λ e. absurd (false≢true (sym e))

pub returns-in_default-clause-told : goal.returns-in_default-clause-told
returns-in_default-clause-told c = λ e. absurd (false≢true e)
