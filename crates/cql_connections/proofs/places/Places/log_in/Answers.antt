use Rattle.std.proofs.Common.{arith}
use Rattle.std.proofs.lemmas.Grind.{common_steps}
use Rattle.cql_connections.proofs.places.Places.log_in.Goals as goal

pub returns-then-taken-clause-own : goal.returns-then-taken-clause-own
returns-then-taken-clause-own c = λ within own. grind (arith, common_steps)

pub returns-clause-bound : goal.returns-clause-bound
returns-clause-bound c = grind (arith, common_steps)

pub invariant_of-self : goal.invariant_of-self
invariant_of-self c = grind (arith, common_steps)
