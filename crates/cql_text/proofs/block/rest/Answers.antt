use Rattle.cql_text.specs.Readers.{rest}
use Rattle.std.proofs.lemmas.Grind.{common_steps}
use Rattle.std.proofs.Common.{arith}
use Rattle.cql_text.proofs.block.rest.Goals as goal

pub returns : goal.returns
unfolding rest
returns c = grind (arith, common_steps)
