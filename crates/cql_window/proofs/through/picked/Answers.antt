use Rattle.std.proofs.lemmas.Grind.{common_steps}
use Rattle.std.proofs.Common.{arith}
use Rattle.cql_window.proofs.through.picked.Goals as goal

pub returns : goal.returns
returns c = grind (arith, common_steps)

pub returns-in_err-values : goal.returns-in_err-values
returns-in_err-values c = grind (arith, common_steps)
