use Rattle.std.proofs.lemmas.Grind.{common_steps}
use Rattle.std.proofs.Common.{arith}
use Rattle.cql_plain.proofs.shape_copy.+copy_of_expr.Goals as goal

pub returns-in-Column : goal.returns-in-Column
returns-in-Column t c = grind (arith, common_steps)

pub returns-in_ok-right-in-Binary : goal.returns-in_ok-right-in-Binary
returns-in_ok-right-in-Binary t c = grind (arith, common_steps)

pub returns-in_ok-try_clone-in-Constant : goal.returns-in_ok-try_clone-in-Constant
returns-in_ok-try_clone-in-Constant t c = grind (arith, common_steps)
