use Rattle.std.proofs.lemmas.Grind.{common_steps}
use Rattle.std.proofs.Common.{arith}
use Rattle.cql_core.proofs.revoking.revoke_on.Goals as goal

pub returns-clause-revoked : goal.returns-clause-revoked
returns-clause-revoked c = grind (arith, common_steps)
