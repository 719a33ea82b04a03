use Rattle.std.proofs.Common.{rules}
use Rattle.cql_algebra.proofs.runs.Runs.finish.Goals as goal

pub returns : goal.returns
returns c = search rules
