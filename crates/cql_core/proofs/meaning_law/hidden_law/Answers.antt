use Rattle.cql_core.proofs.Hiding.{hidden_law}
use Rattle.cql_core.proofs.meaning_law.hidden_law.Goals as goal

pub returns : goal.returns
returns c = hidden_law
