use Rattle.cql_plan.specs.Sources.{are_apart}
use Rattle.std.proofs.lemmas.Grind.{common_steps}
use Rattle.std.proofs.Common.{arith}
use Rattle.cql_plan.proofs.source.are_apart.Goals as goal

pub returns : goal.returns
unfolding are_apart
returns c = grind (arith, common_steps)
