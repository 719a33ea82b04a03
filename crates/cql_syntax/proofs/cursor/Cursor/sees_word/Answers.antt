use Rattle.std.proofs.lemmas.Grind.{common_steps}
use Rattle.std.proofs.Common.{arith}
use Rattle.cql_syntax.proofs.cursor.Cursor.sees_word.Goals as goal

pub returns-in_default-2 : goal.returns-in_default-2
returns-in_default-2 c = grind (arith, common_steps)

pub returns-in-Word : goal.returns-in-Word
returns-in-Word c = grind (arith, common_steps)
