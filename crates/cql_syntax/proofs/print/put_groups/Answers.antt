use Rattle.std.proofs.lemmas.Grind.{common_steps}
use Rattle.std.proofs.Common.{arith}
use Rattle.cql_syntax.proofs.Pieces.{put_append}
use Rattle.cql_syntax.proofs.print.put_groups.Goals as goal

pub returns-in_ok-put_further_columns : goal.returns-in_ok-put_further_columns
returns-in_ok-put_further_columns c = grind (arith, common_steps, put_append)
