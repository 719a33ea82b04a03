use Rattle.cql_algebra.proofs.Every.{blocks_law}
use Rattle.cql_algebra.proofs.output_law.blocks_law.Goals as goal

pub returns : goal.returns
returns c = blocks_law
