use Rattle.std.proofs.lemmas.Grind.{common_steps}
use Rattle.std.proofs.Common.{arith}
use Rattle.cql_eval.proofs.pin.Pin.is_equal.Goals as goal

pub returns-else-slices_equal : goal.returns-else-slices_equal
returns-else-slices_equal c = grind (arith, common_steps)

pub returns-then-slices_equal : goal.returns-then-slices_equal
returns-then-slices_equal c = grind (arith, common_steps)
