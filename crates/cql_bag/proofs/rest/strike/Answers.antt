use Rattle.std.proofs.lemmas.Grind.{common_steps}
use Rattle.std.proofs.Common.{arith}
use Rattle.cql_bag.proofs.rest.strike.Goals as goal

pub returns-clause-rest : goal.returns-clause-rest
returns-clause-rest c = grind (arith, common_steps)

pub returns-clause-found : goal.returns-clause-found
returns-clause-found c = grind (arith, common_steps)
