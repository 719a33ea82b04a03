use Rattle.std.proofs.Common.{rules}
use Rattle.cql_tenants.proofs.clock.Clock.takes.Goals as goal

pub returns-else-at-self : goal.returns-else-at-self
returns-else-at-self c = search rules
