use Rattle.std.proofs.lemmas.Grind.{common_steps}
use Rattle.std.proofs.Common.{arith}
use Rattle.cql_tenants.proofs.name_map.NameMap.len.Goals as goal

pub returns : goal.returns
returns g c = grind (arith, common_steps)
