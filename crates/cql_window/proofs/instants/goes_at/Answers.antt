use Rattle.std.proofs.lemmas.Grind.{common_steps}
use Rattle.std.proofs.Common.{arith}
use Rattle.cql_window.proofs.instants.goes_at.Goals as goal

pub returns : goal.returns
returns c = grind (arith, common_steps)
