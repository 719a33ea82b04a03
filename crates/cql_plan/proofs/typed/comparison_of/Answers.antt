use Rattle.std.proofs.lemmas.Grind.{common_steps}
use Rattle.std.proofs.Common.{rules, arith}
use Rattle.cql_plan.specs.Typing.{comparison_of}
use Rattle.cql_plan.proofs.typed.comparison_of.Goals as goal

pub returns : goal.returns
unfolding comparison_of
returns c = grind (arith, common_steps)

pub returns-then-not-same_kind : goal.returns-then-not-same_kind
unfolding comparison_of
returns-then-not-same_kind c = search rules

pub returns-in_err-left : goal.returns-in_err-left
unfolding comparison_of
returns-in_err-left c = search rules

pub returns-in_err-right : goal.returns-in_err-right
unfolding comparison_of
returns-in_err-right c = search rules
