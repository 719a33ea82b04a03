use Rattle.std.proofs.lemmas.Grind.{common_steps}
use Rattle.std.proofs.Common.{arith}
use Rattle.cql_plain.proofs.shape.shape_groups.Goals as goal

pub returns-else-is_empty-clause-ok : goal.returns-else-is_empty-clause-ok
returns-else-is_empty-clause-ok c = grind (arith, common_steps)

pub returns-then-len-ne0-clause-ok : goal.returns-then-len-ne0-clause-ok
returns-then-len-ne0-clause-ok c = grind (arith, common_steps)

pub returns-then-not-only_counts-clause-ok : goal.returns-then-not-only_counts-clause-ok
returns-then-not-only_counts-clause-ok c = grind (arith, common_steps)

pub returns-else-is_empty-clause-err : goal.returns-else-is_empty-clause-err
returns-else-is_empty-clause-err c = grind (arith, common_steps)

pub returns-then-len-ne0-clause-err : goal.returns-then-len-ne0-clause-err
returns-then-len-ne0-clause-err c = grind (arith, common_steps)
