use Rattle.std.proofs.lemmas.Grind.{common_steps}
use Rattle.std.proofs.Common.{arith}
use Rattle.cql_store.proofs.stub.mark.Goals as goal

pub returns-then-is_overrun : goal.returns-then-is_overrun
returns-then-is_overrun c = grind (arith, common_steps)

pub returns-else-is_overrun : goal.returns-else-is_overrun
returns-else-is_overrun c = grind (arith, common_steps)
