use Rattle.std.proofs.Common.{refl}
use Rattle.cql_sessions.proofs.withheld.Withheld.holds.Goals as goal

pub returns : goal.returns
returns c = refl
