use Rattle.std.proofs.lemmas.Grind.{common_steps}
use Rattle.std.proofs.Common.{arith}
use Rattle.cql_chunks.proofs.seq.fork_right.Goals as goal

pub returns-then-is_outer : goal.returns-then-is_outer
returns-then-is_outer c = grind (arith, common_steps)
