use Rattle.std.proofs.lemmas.Grind.{common_steps}
use Rattle.std.proofs.Common.{arith}
use Rattle.cql_syntax.specs.Spelling.{put}
use Rattle.cql_syntax.proofs.printer.Printer.call.Goals as goal

pub returns : goal.returns
unfolding put
returns c = grind (arith, common_steps)
