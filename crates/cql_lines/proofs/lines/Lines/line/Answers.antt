use Rattle.std.proofs.lemmas.Grind.{common_steps}
use Rattle.std.proofs.Common.{arith}
use Rattle.cql_lines.proofs.lines.Lines.line.Goals as goal

pub returns-else-len-gt-MAX_LINE : goal.returns-else-len-gt-MAX_LINE
returns-else-len-gt-MAX_LINE c = grind (arith, common_steps)

pub returns-then-len-gt-MAX_LINE : goal.returns-then-len-gt-MAX_LINE
returns-then-len-gt-MAX_LINE c = grind (arith, common_steps)
