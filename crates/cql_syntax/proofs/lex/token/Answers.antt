use Rattle.std.proofs.lemmas.Grind.{common_steps}
use Rattle.std.proofs.Common.{arith}
use Rattle.cql_syntax.specs.Lex.{token}
use Rattle.cql_syntax.proofs.lex.token.Goals as goal

pub range_from-requires : goal.range_from-requires
unfolding token
range_from-requires c = grind (arith, common_steps)

pub range_from-requires-then-b-eq39 : goal.range_from-requires-then-b-eq39
unfolding token
range_from-requires-then-b-eq39 c = grind (arith, common_steps)

pub returns-in-None-clause-value : goal.returns-in-None-clause-value
unfolding token
returns-in-None-clause-value c = grind (arith, common_steps)

pub returns-in-Some-clause-value : goal.returns-in-Some-clause-value
unfolding token
returns-in-Some-clause-value c = grind (arith, common_steps)

pub returns-then-b-eq39-clause-value : goal.returns-then-b-eq39-clause-value
unfolding token
returns-then-b-eq39-clause-value c = grind (arith, common_steps)

pub returns-then-is_ascii_digit-clause-value : goal.returns-then-is_ascii_digit-clause-value
unfolding token
returns-then-is_ascii_digit-clause-value c = grind (arith, common_steps)

pub returns-then-is_word_start-clause-value : goal.returns-then-is_word_start-clause-value
unfolding token
returns-then-is_word_start-clause-value c = grind (arith, common_steps)

pub word-requires-clause-begins : goal.word-requires-clause-begins
unfolding token
word-requires-clause-begins c = grind (arith, common_steps)

pub returns-then-b-eq39-clause-within : goal.returns-then-b-eq39-clause-within
unfolding token
returns-then-b-eq39-clause-within c = grind (arith, common_steps)

pub returns-in-Some-clause-within : goal.returns-in-Some-clause-within
unfolding token
returns-in-Some-clause-within c = grind (arith, common_steps)

pub text_token-requires-clause-begins : goal.text_token-requires-clause-begins
unfolding token
text_token-requires-clause-begins c = grind (arith, common_steps)

pub word-requires-clause-some : goal.word-requires-clause-some
unfolding token
word-requires-clause-some c = grind (arith, common_steps)

pub number-requires-clause-begins : goal.number-requires-clause-begins
unfolding token
number-requires-clause-begins c = grind (arith, common_steps)

pub text_token-requires-clause-some : goal.text_token-requires-clause-some
unfolding token
text_token-requires-clause-some c = grind (arith, common_steps)

pub number-requires-clause-some : goal.number-requires-clause-some
unfolding token
number-requires-clause-some c = grind (arith, common_steps)
