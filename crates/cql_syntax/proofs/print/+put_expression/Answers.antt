use Rattle.std.proofs.lemmas.Grind.{common_steps}
use Rattle.std.proofs.Common.{arith}
use Rattle.cql_syntax.proofs.Pieces.{spellings}
use Rattle.cql_syntax.proofs.print.+put_expression.Goals as goal

pub returns-in_ok-symbol-in-Binary : goal.returns-in_ok-symbol-in-Binary
returns-in_ok-symbol-in-Binary t c = grind (arith, common_steps, spellings)

pub returns-in_ok-put_expression-in-Bracket : goal.returns-in_ok-put_expression-in-Bracket
returns-in_ok-put_expression-in-Bracket t c = grind (arith, spellings)

pub returns-in-Column : goal.returns-in-Column
returns-in-Column t c = grind (arith, spellings)

pub returns-in-Constant : goal.returns-in-Constant
returns-in-Constant t c = grind (arith, spellings)
