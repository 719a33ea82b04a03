use Rattle.std.proofs.lemmas.Grind.{common_steps}
use Rattle.std.proofs.Common.{arith}
use Rattle.cql_hall.proofs.one_tenant.step_alone.Goals as goal

pub returns-clause-told : goal.returns-clause-told
returns-clause-told c = grind (arith, common_steps)

pub returns-clause-core : goal.returns-clause-core
returns-clause-core c = grind (arith, common_steps)

pub returns-then-eq-clause-core : goal.returns-then-eq-clause-core
returns-then-eq-clause-core c = grind (arith, common_steps)

pub returns-then-eq-clause-told : goal.returns-then-eq-clause-told
returns-then-eq-clause-told c = grind (arith, common_steps)
