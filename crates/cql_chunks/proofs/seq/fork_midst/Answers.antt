use Rattle.std.proofs.lemmas.Grind.{common_steps}
use Rattle.std.proofs.Common.{arith}
use Rattle.cql_chunks.proofs.seq.fork_midst.Goals as goal

pub returns-in_ok-left-in-Fork : goal.returns-in_ok-left-in-Fork
returns-in_ok-left-in-Fork c = grind (arith, common_steps)
