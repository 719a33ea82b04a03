use Rattle.std.proofs.lemmas.Grind.{common_steps}
use Rattle.std.proofs.Common.{arith}
use Rattle.cql_ops.proofs.set_operation.count_of.Goals as goal

pub returns-in-ExceptAll : goal.returns-in-ExceptAll
returns-in-ExceptAll c = grind (arith, common_steps)

pub returns-in-UnionAll : goal.returns-in-UnionAll
returns-in-UnionAll c = grind (arith, common_steps)
