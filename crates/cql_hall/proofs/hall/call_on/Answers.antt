use Rattle.std.proofs.Common.{refl}
use Rattle.cql_hall.proofs.hall.call_on.Goals as goal

pub returns-clause-enters : goal.returns-clause-enters
returns-clause-enters g c = c.enter-entered.ensures

pub returns-clause-due : goal.returns-clause-due
returns-clause-due g c = refl
