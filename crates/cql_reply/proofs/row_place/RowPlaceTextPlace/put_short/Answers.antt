use Rattle.std.proofs.lemmas.Bool.{false≢true}
use Rattle.std.proofs.lemmas.Grind.{common_steps}
use Rattle.std.proofs.Common.{arith}
use Rattle.cql_reply.proofs.row_place.RowPlaceTextPlace.put_short.Goals as goal

pub returns-then-are_numbers-clause-grows : goal.returns-then-are_numbers-clause-grows
returns-then-are_numbers-clause-grows c = omega arith

pub put_many-requires : goal.put_many-requires
put_many-requires c = omega arith

pub put_numbers-requires : goal.put_numbers-requires
put_numbers-requires c = omega arith

pub returns-then-are_numbers-clause-told : goal.returns-then-are_numbers-clause-told
returns-then-are_numbers-clause-told c = grind (arith, common_steps)

pub returns-then-values-le-FEW-clause-told : goal.returns-then-values-le-FEW-clause-told
returns-then-values-le-FEW-clause-told c = grind (arith, common_steps)

pub returns-then-are_numbers-clause-size : goal.returns-then-are_numbers-clause-size
returns-then-are_numbers-clause-size c = omega arith

pub returns-then-not-is_short-clause-told : goal.returns-then-not-is_short-clause-told
returns-then-not-is_short-clause-told c = λ e. absurd (false≢true e)
