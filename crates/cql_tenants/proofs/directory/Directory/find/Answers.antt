use Rattle.std.proofs.lemmas.Grind.{common_steps}
use Rattle.std.proofs.Common.{arith}
use Rattle.cql_tenants.proofs.directory.Directory.find.Goals as goal

pub returns-else-owner-index-clause-projection : goal.returns-else-owner-index-clause-projection
returns-else-owner-index-clause-projection c = grind (arith, common_steps)

pub returns-in_err-owner-clause-stream : goal.returns-in_err-owner-clause-stream
returns-in_err-owner-clause-stream c = grind (arith, common_steps)

pub returns-in_err-owner-clause-projection : goal.returns-in_err-owner-clause-projection
returns-in_err-owner-clause-projection c = grind (arith, common_steps)
