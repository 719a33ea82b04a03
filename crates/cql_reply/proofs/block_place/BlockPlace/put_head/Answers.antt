use Rattle.std.proofs.lemmas.Grind.{common_steps}
use Rattle.std.proofs.Common.{arith}
use Rattle.cql_reply.proofs.block_place.BlockPlace.put_head.Goals as goal

pub returns-in-Fault-clause-told : goal.returns-in-Fault-clause-told
returns-in-Fault-clause-told c = grind (arith, common_steps)

pub returns-in-Rows-clause-told : goal.returns-in-Rows-clause-told
returns-in-Rows-clause-told c = grind (arith, common_steps)

pub returns-in-Signed-clause-told : goal.returns-in-Signed-clause-told
returns-in-Signed-clause-told c = grind (arith, common_steps)

pub returns-in-Rows-clause-within : goal.returns-in-Rows-clause-within
returns-in-Rows-clause-within c = grind (arith, common_steps)

pub returns-in-Fault-clause-within : goal.returns-in-Fault-clause-within
returns-in-Fault-clause-within c = grind (arith, common_steps)

pub returns-in-Signed-clause-within : goal.returns-in-Signed-clause-within
returns-in-Signed-clause-within c = grind (arith, common_steps)
