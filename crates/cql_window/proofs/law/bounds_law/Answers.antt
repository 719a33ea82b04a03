use Rattle.cql_window.proofs.Between.{bounds_law}
use Rattle.cql_window.proofs.law.bounds_law.Goals as goal

pub returns : goal.returns
returns c = bounds_law _ _ _
