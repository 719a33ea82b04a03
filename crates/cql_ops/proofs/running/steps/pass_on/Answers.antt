use Rattle.std.proofs.lemmas.Grind.{common_steps}
use Rattle.std.proofs.Common.{arith}
use Rattle.cql_ops.proofs.running.steps.pass_on.Goals as goal

pub returns-clause-told : goal.returns-clause-told
returns-clause-told g c = grind (arith, common_steps)

pub returns-clause-kind : goal.returns-clause-kind
returns-clause-kind g c = grind (arith, common_steps)

pub returns-clause-stop : goal.returns-clause-stop
returns-clause-stop g c = grind (arith, common_steps)

pub returns-in_err-feed-clause-stop : goal.returns-in_err-feed-clause-stop
returns-in_err-feed-clause-stop g c = grind (arith, common_steps)

pub returns-in_err-feed-clause-told : goal.returns-in_err-feed-clause-told
returns-in_err-feed-clause-told g c = grind (arith, common_steps)

pub returns-in_err-feed-clause-kind : goal.returns-in_err-feed-clause-kind
returns-in_err-feed-clause-kind g c = grind (arith, common_steps)
