use Rattle.std.proofs.lemmas.Grind.{common_steps}
use Rattle.std.proofs.Common.{arith}
use Rattle.cql_syntax.proofs.Pieces.{put_append}
use Rattle.cql_syntax.specs.Spelling.{spell_block}
use Rattle.cql_syntax.proofs.print.put_block.Goals as goal

pub returns : goal.returns
unfolding spell_block
returns c = grind (arith, common_steps, put_append)
