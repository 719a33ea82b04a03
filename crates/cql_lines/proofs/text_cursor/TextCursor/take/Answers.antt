use Rattle.std.proofs.lemmas.Grind.{common_steps}
use Rattle.std.proofs.Common.{arith}
use Rattle.cql_lines.proofs.text_cursor.TextCursor.take.Goals as goal

pub invariant_of-self : goal.invariant_of-self
invariant_of-self c = grind (arith, common_steps)

pub returns-then-bytes-self-clause-yes : goal.returns-then-bytes-self-clause-yes
returns-then-bytes-self-clause-yes c = grind (arith, common_steps)
