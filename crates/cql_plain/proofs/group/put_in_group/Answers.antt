use Rattle.std.proofs.lemmas.Grind.{common_steps}
use Rattle.std.proofs.Common.{arith}
use Rattle.cql_plain.proofs.group.put_in_group.Goals as goal

pub returns : goal.returns
returns c = record { made = grind (arith, common_steps); bag = grind (arith, common_steps); fewer = grind (arith, common_steps) }
