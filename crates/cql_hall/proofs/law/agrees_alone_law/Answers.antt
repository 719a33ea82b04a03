use Rattle.cql_hall.proofs.Alone.{agrees_alone_too}
use Rattle.cql_hall.proofs.law.agrees_alone_law.Goals as goal

pub returns : goal.returns
returns c = agrees_alone_too
