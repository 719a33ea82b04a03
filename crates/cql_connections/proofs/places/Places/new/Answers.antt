use Rattle.std.proofs.lemmas.Grind.{common_steps}
use Rattle.std.proofs.Common.{rules, arith}
use Rattle.cql_connections.proofs.places.Places.new.Goals as goal

pub returns-clause-all : goal.returns-clause-all
returns-clause-all c = search rules

pub invariant_of-result : goal.invariant_of-result
invariant_of-result c = grind (arith, common_steps)
