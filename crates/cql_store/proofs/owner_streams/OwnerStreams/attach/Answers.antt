use Rattle.std.proofs.lemmas.Grind.{common_steps}
use Rattle.std.proofs.Common.{arith}
use Rattle.cql_store.proofs.owner_streams.OwnerStreams.attach.Goals as goal

pub returns-clause-err : goal.returns-clause-err
returns-clause-err c = grind (arith, common_steps)
