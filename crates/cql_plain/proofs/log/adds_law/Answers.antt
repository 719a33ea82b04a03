use Rattle.cql_plain.proofs.Logs.{adds_law}
use Rattle.cql_plain.proofs.log.adds_law.Goals as goal

pub returns : goal.returns
returns c = adds_law c.same_counts.ensures c.put_all_counts.ensures c.take_counts.ensures
