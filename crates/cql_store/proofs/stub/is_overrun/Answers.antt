use Rattle.std.proofs.lemmas.Grind.{common_steps}
use Rattle.std.proofs.Common.{arith}
use Rattle.cql_store.proofs.stub.is_overrun.Goals as goal

pub returns-else-stub : goal.returns-else-stub
returns-else-stub c = grind (arith, common_steps)

pub returns-then-stub : goal.returns-then-stub
returns-then-stub c = grind (arith, common_steps)
