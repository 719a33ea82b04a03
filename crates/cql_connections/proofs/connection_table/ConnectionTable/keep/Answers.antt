use Rattle.std.proofs.Common.{rules}
use Rattle.cql_connections.proofs.connection_table.ConnectionTable.keep.Goals as goal

pub returns : goal.returns
returns g c = search rules
