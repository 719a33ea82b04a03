use Rattle.std.proofs.lemmas.Grind.{common_steps}
use Rattle.std.proofs.Common.{arith}
use Rattle.cql_syntax.proofs.Pieces.{spellings}
use Rattle.cql_syntax.proofs.print.+put_condition.Goals as goal

pub returns-in_ok-symbol-in-Compare : goal.returns-in_ok-symbol-in-Compare
returns-in_ok-symbol-in-Compare t c = grind (arith, common_steps, spellings)

pub returns-in_ok-put_condition-in-Bracket : goal.returns-in_ok-put_condition-in-Bracket
returns-in_ok-put_condition-in-Bracket t c = grind (arith, spellings)

pub returns-in_ok-symbol-in-Not : goal.returns-in_ok-symbol-in-Not
returns-in_ok-symbol-in-Not t c = grind (arith, spellings)

pub returns-in_ok-symbol-in-Or : goal.returns-in_ok-symbol-in-Or
returns-in_ok-symbol-in-Or t c = grind (arith, spellings)

pub returns-in_ok-symbol-in-And : goal.returns-in_ok-symbol-in-And
returns-in_ok-symbol-in-And t c = grind (arith, spellings)
