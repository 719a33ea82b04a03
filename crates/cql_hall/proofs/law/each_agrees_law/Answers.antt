use Rattle.cql_hall.proofs.Calls.{agrees_each}
use Rattle.cql_hall.proofs.law.each_agrees_law.Goals as goal

pub returns : goal.returns
returns c = agrees_each
