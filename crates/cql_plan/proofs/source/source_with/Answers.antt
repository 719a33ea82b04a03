use Rattle.std.proofs.lemmas.Grind.{common_steps}
use Rattle.std.proofs.Common.{arith}
use Rattle.cql_plan.proofs.source.source_with.Goals as goal

pub returns : goal.returns
returns c = grind (arith, common_steps)

pub returns-in_err-window : goal.returns-in_err-window
returns-in_err-window c = grind (arith, common_steps)

pub returns-in_err-input : goal.returns-in_err-input
returns-in_err-input c = grind (arith, common_steps)

pub returns-in_err-window-2 : goal.returns-in_err-window-2
returns-in_err-window-2 c = grind (arith, common_steps)

pub returns-in_err-fields : goal.returns-in_err-fields
returns-in_err-fields c = grind (arith, common_steps)

pub returns-in_err-alias : goal.returns-in_err-alias
returns-in_err-alias c = grind (arith, common_steps)
