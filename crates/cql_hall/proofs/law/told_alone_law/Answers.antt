use Rattle.cql_hall.proofs.Alone.{told_alone}
use Rattle.cql_hall.proofs.law.told_alone_law.Goals as goal

pub returns : goal.returns
returns c = told_alone
