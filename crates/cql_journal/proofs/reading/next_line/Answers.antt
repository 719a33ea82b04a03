use Rattle.std.proofs.lemmas.Grind.{common_steps}
use Rattle.std.proofs.Common.{arith}
use Rattle.cql_journal.proofs.reading.next_line.Goals as goal

pub returns-then-is_some : goal.returns-then-is_some
returns-then-is_some c = grind (arith, common_steps)

pub returns-in_default : goal.returns-in_default
returns-in_default c = grind (arith, common_steps)
