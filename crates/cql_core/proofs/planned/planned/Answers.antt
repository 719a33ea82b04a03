use Rattle.std.proofs.lemmas.Grind.{common_steps}
use Rattle.std.proofs.Common.{arith}
use Rattle.cql_core.specs.Cql.{planned}
use Rattle.cql_core.proofs.planned.planned.Goals as goal

pub returns-in-Err-Refused : goal.returns-in-Err-Refused
unfolding planned
returns-in-Err-Refused c = grind (arith, common_steps)

pub returns-in-Ok : goal.returns-in-Ok
unfolding planned
returns-in-Ok c = grind (arith, common_steps)
