use Rattle.std.proofs.lemmas.Grind.{common_steps}
use Rattle.std.proofs.Common.{arith}
use Rattle.cql_lines.proofs.lines.Lines.next.Goals as goal

pub returns : goal.returns
returns g c = grind (arith, common_steps)

pub returns-then-not-branch : goal.returns-then-not-branch
returns-then-not-branch g c = grind (arith, common_steps)
