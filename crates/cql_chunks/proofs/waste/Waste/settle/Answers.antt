use Rattle.std.proofs.lemmas.Grind.{common_steps}
use Rattle.std.proofs.Common.{arith}
use Rattle.cql_chunks.proofs.waste.Waste.settle.Goals as goal

pub loop-preserved : goal.loop-preserved
loop-preserved c = grind (arith, common_steps)

pub returns-in_default-clause-all : goal.returns-in_default-clause-all
returns-in_default-clause-all c = grind (arith, common_steps)

pub returns-in_default-clause-fewer : goal.returns-in_default-clause-fewer
returns-in_default-clause-fewer c = grind (arith, common_steps)

pub returns-then-budget-eq0-clause-fewer : goal.returns-then-budget-eq0-clause-fewer
returns-then-budget-eq0-clause-fewer c = grind (arith, common_steps)

pub returns-clause-fewer : goal.returns-clause-fewer
returns-clause-fewer c = grind (arith, common_steps)

pub returns-clause-all : goal.returns-clause-all
returns-clause-all c = grind (arith, common_steps)

pub returns-then-budget-eq0-clause-all : goal.returns-then-budget-eq0-clause-all
returns-then-budget-eq0-clause-all c = grind (arith, common_steps)
