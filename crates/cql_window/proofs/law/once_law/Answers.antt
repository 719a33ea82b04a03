use Rattle.cql_window.proofs.Once.{last_once}
use Rattle.cql_window.proofs.law.once_law.Goals as goal

pub returns : goal.returns
returns c = last_once
