use Rattle.std.proofs.lemmas.Grind.{common_steps}
use Rattle.std.proofs.Common.{arith}
use Rattle.cql_tenants.proofs.directory.Directory.grantee.Goals as goal

pub returns-clause-within : goal.returns-clause-within
returns-clause-within c = grind (arith, common_steps)

pub returns-clause-shown : goal.returns-clause-shown
returns-clause-shown c = grind (arith, common_steps)

pub namespace_at-grantee-requires : goal.namespace_at-grantee-requires
namespace_at-grantee-requires c = grind (arith, common_steps)

pub returns-clause-index : goal.returns-clause-index
returns-clause-index c = grind (arith, common_steps)

pub returns-then-index-clause-refused : goal.returns-then-index-clause-refused
returns-then-index-clause-refused c = grind (arith, common_steps)

pub tenant_named-requires : goal.tenant_named-requires
tenant_named-requires c = grind (arith, common_steps)
