use Rattle.std.proofs.lemmas.Grind.{common_steps}
use Rattle.std.proofs.Common.{arith}
use Rattle.cql_store.proofs.store.count_of.Goals as goal

pub returns : goal.returns
returns c = grind (arith, common_steps)
