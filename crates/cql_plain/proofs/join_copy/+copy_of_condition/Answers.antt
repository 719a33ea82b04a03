use Rattle.std.proofs.lemmas.Grind.{common_steps}
use Rattle.std.proofs.Common.{arith}
use Rattle.cql_plain.proofs.join_copy.+copy_of_condition.Goals as goal

pub returns-in_ok-inner-in-Not : goal.returns-in_ok-inner-in-Not
returns-in_ok-inner-in-Not t c = grind (arith, common_steps)

pub returns-in_ok-right-in-And : goal.returns-in_ok-right-in-And
returns-in_ok-right-in-And t c = grind (arith, common_steps)

pub returns-in_ok-right-in-Compare : goal.returns-in_ok-right-in-Compare
returns-in_ok-right-in-Compare t c = grind (arith, common_steps)

pub returns-in_ok-right-in-Or : goal.returns-in_ok-right-in-Or
returns-in_ok-right-in-Or t c = grind (arith, common_steps)

pub same-left : goal.same-left
same-left t c = grind (arith, common_steps)

pub same-left-in-Or : goal.same-left-in-Or
same-left-in-Or t c = grind (arith, common_steps)
