use Rattle.cql_store.proofs.Next as next
use Rattle.cql_store.proofs.law.next_law.Goals as goal

pub returns : goal.returns
returns c = next.next_law
