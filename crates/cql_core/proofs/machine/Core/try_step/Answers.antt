use Rattle.std.proofs.lemmas.Grind.{common_steps}
use Rattle.std.proofs.Common.{arith}
use Rattle.cql_core.proofs.machine.Core.try_step.Goals as goal

pub query-requires-clause-checked : goal.query-requires-clause-checked
query-requires-clause-checked c = grind (arith, common_steps)

pub returns-clause-tries : goal.returns-clause-tries
returns-clause-tries c = grind (arith, common_steps)
