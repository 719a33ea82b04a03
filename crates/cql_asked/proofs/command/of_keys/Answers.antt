use Rattle.std.proofs.lemmas.Grind.{common_steps}
use Rattle.std.proofs.Common.{arith}
use Rattle.cql_asked.proofs.command.of_keys.Goals as goal

pub returns-in_err-command : goal.returns-in_err-command
returns-in_err-command c = grind (arith, common_steps)
