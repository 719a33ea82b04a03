use Rattle.cql_store.proofs.Added as added
use Rattle.cql_store.proofs.streams_law.remove_law.Goals as goal

pub returns : goal.returns
returns c = added.remove_law
