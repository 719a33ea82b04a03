use Rattle.std.proofs.lemmas.Grind.{common_steps}
use Rattle.std.proofs.Common.{arith}
use Rattle.cql_chunks.proofs.words.push_words.Goals as goal

pub loop-value-preserved : goal.loop-value-preserved
loop-value-preserved c = grind (arith, common_steps)

pub returns-clause-words : goal.returns-clause-words
returns-clause-words c = grind (arith, common_steps)

pub returns-clause-numbers : goal.returns-clause-numbers
returns-clause-numbers c = grind (arith, common_steps)

pub returns-in_err-ok-2-clause-numbers : goal.returns-in_err-ok-2-clause-numbers
returns-in_err-ok-2-clause-numbers c = grind (arith, common_steps)

pub returns-in_err-ok-2-clause-words : goal.returns-in_err-ok-2-clause-words
returns-in_err-ok-2-clause-words c = grind (arith, common_steps)

pub returns-in_err-ok-clause-numbers : goal.returns-in_err-ok-clause-numbers
returns-in_err-ok-clause-numbers c = grind (arith, common_steps)

pub returns-in_err-ok-clause-words : goal.returns-in_err-ok-clause-words
returns-in_err-ok-clause-words c = grind (arith, common_steps)
