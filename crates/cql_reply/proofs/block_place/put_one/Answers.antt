use Rattle.std.proofs.lemmas.Bool.{false≢true}
use Rattle.std.proofs.lemmas.Grind.{common_steps}
use Rattle.std.proofs.Common.{arith}
use Rattle.cql_reply.proofs.block_place.put_one.Goals as goal

pub put-requires-3 : goal.put-requires-3
put-requires-3 c = omega arith

pub slice_bounds-put-end-3 : goal.slice_bounds-put-end-3
slice_bounds-put-end-3 c = omega arith

pub returns-clause-within : goal.returns-clause-within
returns-clause-within c = grind (arith, common_steps)

pub returns-clause-told : goal.returns-clause-told
returns-clause-told c = grind (arith, common_steps)

pub returns-clause-none : goal.returns-clause-none
returns-clause-none c = λ e. grind (arith, common_steps)

pub returns-in_default-clause-told : goal.returns-in_default-clause-told
returns-in_default-clause-told c = λ e. absurd (false≢true e)
