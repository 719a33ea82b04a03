use Rattle.std.proofs.lemmas.Grind.{common_steps}
use Rattle.std.proofs.Common.{arith}
use Rattle.cql_bag.proofs.min_tree.set_in.Goals as goal

pub returns-clause-pair : goal.returns-clause-pair
returns-clause-pair c = grind (arith, common_steps)
