use Rattle.cql_core.proofs.Orders.{order_law}
use Rattle.cql_core.proofs.meaning_law.order_law.Goals as goal

pub returns : goal.returns
returns c = order_law
