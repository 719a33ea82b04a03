use Rattle.std.proofs.lemmas.Grind.{common_steps}
use Rattle.std.proofs.Common.{arith, rules}
use Rattle.cql_core.proofs.prepared.ready_of.Goals as goal

pub returns-in-Fetch-clause-command : goal.returns-in-Fetch-clause-command
returns-in-Fetch-clause-command c = search rules

pub returns-in_ok-checked-in-Query-clause-ready : goal.returns-in_ok-checked-in-Query-clause-ready
returns-in_ok-checked-in-Query-clause-ready c = grind (arith, common_steps)

pub same-name-in-Query : goal.same-name-in-Query
same-name-in-Query c = grind (arith, common_steps)

pub same-text : goal.same-text
same-text c = grind (arith, common_steps)
