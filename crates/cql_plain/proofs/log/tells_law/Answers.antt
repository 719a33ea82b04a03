use Rattle.cql_plain.proofs.Logs.{tells_law}
use Rattle.cql_plain.proofs.log.tells_law.Goals as goal

pub returns : goal.returns
returns c = tells_law c.same_counts.ensures c.put_all_counts.ensures c.take_counts.ensures
