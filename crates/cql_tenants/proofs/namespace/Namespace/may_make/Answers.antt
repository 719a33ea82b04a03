use Rattle.std.proofs.lemmas.Grind.{common_steps}
use Rattle.std.proofs.Common.{arith}
use Rattle.cql_tenants.proofs.namespace.Namespace.may_make.Goals as goal

pub returns-clause-refused : goal.returns-clause-refused
returns-clause-refused c = grind (arith, common_steps)

pub returns-clause-schema : goal.returns-clause-schema
returns-clause-schema c = grind (arith, common_steps)

pub returns-in_default-clause-refused : goal.returns-in_default-clause-refused
returns-in_default-clause-refused c = grind (arith, common_steps)

pub returns-then-not-is_name-clause-refused : goal.returns-then-not-is_name-clause-refused
returns-then-not-is_name-clause-refused c = grind (arith, common_steps)

pub returns-in_default-clause-schema : goal.returns-in_default-clause-schema
returns-in_default-clause-schema c = grind (arith, common_steps)

pub returns-then-not-is_name-clause-schema : goal.returns-then-not-is_name-clause-schema
returns-then-not-is_name-clause-schema c = grind (arith, common_steps)
