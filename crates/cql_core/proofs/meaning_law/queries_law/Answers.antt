use Rattle.cql_core.proofs.Queries.{queries_law}
use Rattle.cql_core.proofs.meaning_law.queries_law.Goals as goal

pub returns : goal.returns
returns c = queries_law
