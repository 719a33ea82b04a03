use Rattle.std.proofs.Common.{arith}
use Rattle.std.proofs.lemmas.Grind.{common_steps}
use Rattle.cql_connections.proofs.connection_table.ConnectionTable.is_gone.Goals as goal

pub returns-clause-somebody : goal.returns-clause-somebody
returns-clause-somebody g c = grind (arith, common_steps)
