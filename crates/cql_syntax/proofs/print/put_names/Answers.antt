use Rattle.std.proofs.lemmas.Grind.{common_steps}
use Rattle.std.proofs.Common.{arith}
use Rattle.cql_syntax.proofs.Pieces.{put_append}
use Rattle.cql_syntax.proofs.print.put_names.Goals as goal

pub returns-in_ok-put_further_names : goal.returns-in_ok-put_further_names
returns-in_ok-put_further_names c = grind (arith, common_steps, put_append)
