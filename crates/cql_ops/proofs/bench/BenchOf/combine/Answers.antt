use Rattle.std.proofs.lemmas.Grind.{common_steps}
use Rattle.std.proofs.Common.{arith}
use Rattle.cql_ops.proofs.bench.BenchOf.combine.Goals as goal

pub returns-clause-stop : goal.returns-clause-stop
returns-clause-stop c = grind (arith, common_steps)

pub returns-clause-told : goal.returns-clause-told
returns-clause-told c = grind (arith, common_steps)

pub returns-clause-first : goal.returns-clause-first
returns-clause-first c = grind (arith, common_steps)

pub returns-in_err-emit-clause-stop : goal.returns-in_err-emit-clause-stop
returns-in_err-emit-clause-stop c = grind (arith, common_steps)

pub returns-in_err-feed-2-clause-stop : goal.returns-in_err-feed-2-clause-stop
returns-in_err-feed-2-clause-stop c = grind (arith, common_steps)
