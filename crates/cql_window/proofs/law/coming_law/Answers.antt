use Rattle.cql_window.proofs.Coming.{more_come}
use Rattle.cql_window.proofs.law.coming_law.Goals as goal

pub returns : goal.returns
returns c = more_come
