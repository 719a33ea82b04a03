use Rattle.std.proofs.lemmas.Grind.{common_steps}
use Rattle.std.proofs.Common.{arith}
use Rattle.cql_chunks.proofs.seq.cut.Goals as goal

pub returns-then-len-eq0-clause-list : goal.returns-then-len-eq0-clause-list
returns-then-len-eq0-clause-list c = grind (arith, common_steps)

pub returns-then-len-eq0-clause-bare : goal.returns-then-len-eq0-clause-bare
returns-then-len-eq0-clause-bare c = grind (arith, common_steps)
