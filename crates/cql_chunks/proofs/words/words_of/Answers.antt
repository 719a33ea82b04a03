use Rattle.std.proofs.lemmas.Grind.{common_steps}
use Rattle.std.proofs.Common.{arith}
use Rattle.cql_chunks.proofs.words.words_of.Goals as goal

pub loop-row-preserved : goal.loop-row-preserved
loop-row-preserved c = grind (arith, common_steps)

pub returns : goal.returns
returns c = grind (arith, common_steps)

pub returns-in_err-checked_mul : goal.returns-in_err-checked_mul
returns-in_err-checked_mul c = grind (arith, common_steps)

pub returns-in_err-push_words : goal.returns-in_err-push_words
returns-in_err-push_words c = grind (arith, common_steps)

pub returns-in_err-words : goal.returns-in_err-words
returns-in_err-words c = grind (arith, common_steps)
