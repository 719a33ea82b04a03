use Rattle.std.proofs.lemmas.Grind.{common_steps}
use Rattle.std.proofs.Common.{arith}
use Rattle.cql_plan.specs.Typing.{with_second}
use Rattle.cql_plan.proofs.resolution.with_second.Goals as goal

pub returns-then-not-same_kinds : goal.returns-then-not-same_kinds
unfolding with_second
returns-then-not-same_kinds g c = grind (arith, common_steps)

pub returns-in-None : goal.returns-in-None
unfolding with_second
returns-in-None g c = grind (arith, common_steps)

pub returns-in_ok-combined-in-Some : goal.returns-in_ok-combined-in-Some
unfolding with_second
returns-in_ok-combined-in-Some g c = grind (arith, common_steps)
