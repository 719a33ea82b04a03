use Rattle.cql_plan.proofs.Seen.{seen_law}
use Rattle.cql_plan.proofs.law.seen_law.Goals as goal

pub returns : goal.returns
returns c = seen_law
