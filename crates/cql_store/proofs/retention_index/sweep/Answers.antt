use Rattle.std.proofs.lemmas.Grind.{common_steps}
use Rattle.std.proofs.Common.{arith}
use Rattle.cql_store.proofs.retention_index.sweep.Goals as goal

pub returns-clause-marked : goal.returns-clause-marked
returns-clause-marked c = grind (arith, common_steps)

pub returns-then-budget-eq0-clause-marked : goal.returns-then-budget-eq0-clause-marked
returns-then-budget-eq0-clause-marked c = grind (arith, common_steps)

pub returns-clause-same : goal.returns-clause-same
returns-clause-same c = grind (arith, common_steps)

pub returns-clause-limits : goal.returns-clause-limits
returns-clause-limits c = grind (arith, common_steps)

pub returns-clause-firsts : goal.returns-clause-firsts
returns-clause-firsts c = grind (arith, common_steps)

pub returns-then-budget-eq0-clause-all : goal.returns-then-budget-eq0-clause-all
returns-then-budget-eq0-clause-all c = grind (arith, common_steps)

pub returns-then-budget-eq0-clause-same : goal.returns-then-budget-eq0-clause-same
returns-then-budget-eq0-clause-same c = grind (arith, common_steps)
