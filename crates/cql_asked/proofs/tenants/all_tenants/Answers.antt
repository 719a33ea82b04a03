use Rattle.std.proofs.lemmas.Grind.{common_steps}
use Rattle.std.proofs.Common.{arith}
use Rattle.cql_asked.proofs.tenants.all_tenants.Goals as goal

pub returns-in_err-tenant_of-clause-refused : goal.returns-in_err-tenant_of-clause-refused
returns-in_err-tenant_of-clause-refused c = grind (arith, common_steps)

pub returns-clause-ok : goal.returns-clause-ok
returns-clause-ok c = grind (arith, common_steps)

pub loop-item-preserved : goal.loop-item-preserved
loop-item-preserved c = grind (arith, common_steps)
