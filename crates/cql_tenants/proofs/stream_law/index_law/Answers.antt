use Rattle.cql_tenants.proofs.Indices.{indices}
use Rattle.cql_tenants.proofs.stream_law.index_law.Goals as goal

pub returns : goal.returns
returns c = indices
