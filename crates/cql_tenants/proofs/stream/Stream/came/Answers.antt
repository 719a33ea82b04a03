use Rattle.std.proofs.Common.{rules}
use Rattle.cql_tenants.proofs.stream.Stream.came.Goals as goal

pub came-requires : goal.came-requires
came-requires c = search rules

pub returns : goal.returns
returns c = search rules
