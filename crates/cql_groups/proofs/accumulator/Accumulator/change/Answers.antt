use Rattle.std.proofs.lemmas.Grind.{common_steps}
use Rattle.std.proofs.Common.{arith}
use Rattle.cql_groups.proofs.accumulator.Accumulator.change.Goals as goal

pub returns-in-Values : goal.returns-in-Values
returns-in-Values c = grind (arith, common_steps)
