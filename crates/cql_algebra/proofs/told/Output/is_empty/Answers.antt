use Rattle.std.proofs.Common.{rules}
use Rattle.cql_algebra.proofs.told.Output.is_empty.Goals as goal

pub returns-in-Fault : goal.returns-in-Fault
returns-in-Fault c = search rules
