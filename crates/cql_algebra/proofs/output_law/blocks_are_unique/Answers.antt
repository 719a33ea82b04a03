use Rattle.cql_algebra.proofs.Blocks.{are_unique}
use Rattle.cql_algebra.proofs.output_law.blocks_are_unique.Goals as goal

pub returns : goal.returns
returns c = are_unique
