use Rattle.std.proofs.lemmas.Grind.{common_steps}
use Rattle.std.proofs.Common.{rules, arith}
use Rattle.cql_plan.specs.Typing.{body_of}
use Rattle.cql_plan.proofs.block.body_of.Goals as goal

pub returns-in_err-condition : goal.returns-in_err-condition
unfolding body_of
returns-in_err-condition c = search rules

pub returns-in_err-groups : goal.returns-in_err-groups
unfolding body_of
returns-in_err-groups c = grind (arith, common_steps)

pub returns : goal.returns
unfolding body_of
returns c = grind (arith, common_steps)
