use Rattle.cql_text.specs.Readers.{whole}
use Rattle.std.proofs.lemmas.Grind.{common_steps}
use Rattle.std.proofs.Common.{arith}
use Rattle.cql_text.proofs.query.whole.Goals as goal

pub returns : goal.returns
unfolding whole
returns c = grind (arith, common_steps)
