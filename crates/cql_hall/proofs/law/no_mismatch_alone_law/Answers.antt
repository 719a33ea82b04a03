use Rattle.cql_hall.proofs.Alone.{has_no_mismatch}
use Rattle.cql_hall.proofs.law.no_mismatch_alone_law.Goals as goal

pub returns : goal.returns
returns c = has_no_mismatch
