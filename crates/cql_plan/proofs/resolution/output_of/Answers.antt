use Rattle.std.proofs.Common.{rules}
use Rattle.cql_plan.proofs.resolution.output_of.Goals as goal

pub returns-in-None : goal.returns-in-None
returns-in-None c = search rules
