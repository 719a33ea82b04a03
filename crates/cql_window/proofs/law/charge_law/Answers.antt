use Rattle.cql_window.proofs.Laws.{charge_law}
use Rattle.cql_window.proofs.law.charge_law.Goals as goal

pub returns : goal.returns
returns c = charge_law _ _ _ _
