use Rattle.std.proofs.lemmas.Grind.{common_steps}
use Rattle.std.proofs.Common.{arith}
use Rattle.cql_tenants.proofs.readable.granted_listed.Goals as goal

pub returns : goal.returns
returns c = grind (arith, common_steps)

pub read_stream-requires : goal.read_stream-requires
read_stream-requires c = grind (arith, common_steps)

pub loop-grant-preserved : goal.loop-grant-preserved
loop-grant-preserved c = grind (arith, common_steps)
