use Rattle.std.proofs.lemmas.Grind.{common_steps}
use Rattle.std.proofs.Common.{arith}
use Rattle.cql_plan.specs.Expr.{expr_value}
use Rattle.cql_algebra.proofs.numbers.+number_of.Goals as goal

pub returns-in_err-right-in-Binary : goal.returns-in_err-right-in-Binary
unfolding expr_value
returns-in_err-right-in-Binary t c = grind (arith, common_steps)
