use Rattle.cql_algebra.proofs.Every.{local_law}
use Rattle.cql_algebra.proofs.output_law.local_law.Goals as goal

pub returns : goal.returns
returns c = local_law
