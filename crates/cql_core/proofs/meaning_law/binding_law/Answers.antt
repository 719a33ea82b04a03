use Rattle.cql_core.proofs.Bindings.{binding_law}
use Rattle.cql_core.proofs.meaning_law.binding_law.Goals as goal

pub returns : goal.returns
returns c = binding_law
