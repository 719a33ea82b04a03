use Rattle.cql_lines.proofs.Keys.{are_among_all_known}
use Rattle.std.proofs.lemmas.Grind.{common_steps}
use Rattle.std.proofs.Common.{arith}
use Rattle.cql_lines.proofs.tree.are_among.Goals as goal

pub returns-then-not-is_among : goal.returns-then-not-is_among
returns-then-not-is_among c = grind (arith, common_steps)

pub returns : goal.returns
returns c = grind (arith, common_steps)

pub loop-key-preserved : goal.loop-key-preserved
loop-key-preserved c = grind (arith, common_steps)
