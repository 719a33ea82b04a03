use Rattle.std.proofs.lemmas.Grind.{common_steps}
use Rattle.std.proofs.Common.{arith}
use Rattle.cql_lines.proofs.text_cursor.plain_end.Goals as goal

pub loop-i-preserved : goal.loop-i-preserved
loop-i-preserved c = grind (arith, common_steps)

pub returns-else-text-i-ge32-clause-value : goal.returns-else-text-i-ge32-clause-value
returns-else-text-i-ge32-clause-value c = grind (arith, common_steps)

pub returns-else-text-i-ne92-clause-value : goal.returns-else-text-i-ne92-clause-value
returns-else-text-i-ne92-clause-value c = grind (arith, common_steps)

pub returns-else-text-i-ne34-clause-value : goal.returns-else-text-i-ne34-clause-value
returns-else-text-i-ne34-clause-value c = grind (arith, common_steps)
