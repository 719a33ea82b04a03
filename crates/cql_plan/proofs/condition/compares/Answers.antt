use Rattle.std.proofs.Common.{rules}
use Rattle.cql_plan.proofs.condition.compares.Goals as goal

pub returns-in-LessOrEqual : goal.returns-in-LessOrEqual
returns-in-LessOrEqual c = search rules
