use Rattle.cql_store.proofs.Told.{stub_law}
use Rattle.cql_store.proofs.law.stub_law.Goals as goal

pub returns : goal.returns
returns c = stub_law
