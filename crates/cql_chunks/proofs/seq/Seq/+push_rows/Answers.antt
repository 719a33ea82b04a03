use Rattle.std.proofs.lemmas.Grind.{common_steps}
use Rattle.std.proofs.Common.{arith}
use Rattle.cql_chunks.proofs.seq.Seq.+push_rows.Goals as goal

pub returns-in_ok-push-in-Fork : goal.returns-in_ok-push-in-Fork
returns-in_ok-push-in-Fork t c = grind (arith, common_steps)
