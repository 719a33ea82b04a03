use Rattle.cql_window.proofs.Laws.{split_law}
use Rattle.cql_window.proofs.law.split_law.Goals as goal

pub returns : goal.returns
returns c = split_law _ _ _ _
