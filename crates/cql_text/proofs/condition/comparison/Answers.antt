use Rattle.cql_text.specs.Readers.{comparison}
use Rattle.std.proofs.lemmas.Grind.{common_steps}
use Rattle.std.proofs.Common.{arith}
use Rattle.cql_text.proofs.condition.comparison.Goals as goal

pub returns : goal.returns
unfolding comparison
returns c = grind (arith, common_steps)
