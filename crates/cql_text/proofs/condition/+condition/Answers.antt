use Rattle.cql_text.specs.Readers.{condition, either_of}
use Rattle.std.proofs.Common.{arith}
use Rattle.cql_text.specs.Reading.{chain, chain_of}
use Rattle.cql_text.proofs.Steps.{chain_turn, head_signs}
use Rattle.cql_text.proofs.condition.+condition.Goals as goal

pub more_plain-returns-then-not-sees : goal.more_plain-returns-then-not-sees
unfolding chain
more_plain-returns-then-not-sees c = grind (arith, chain_turn, head_signs)

pub more_plain-returns-in_err-right : goal.more_plain-returns-in_err-right
unfolding chain
more_plain-returns-in_err-right c = grind (arith, chain_turn, head_signs)

pub more_plain-loop-turn-preserved : goal.more_plain-loop-turn-preserved
unfolding chain
more_plain-loop-turn-preserved c = grind (arith, chain_turn, head_signs)

pub more_both-returns-then-not-sees : goal.more_both-returns-then-not-sees
unfolding chain
more_both-returns-then-not-sees c = grind (arith, chain_turn, head_signs)

pub more_both-returns-in_err-right : goal.more_both-returns-in_err-right
unfolding chain
more_both-returns-in_err-right c = grind (arith, chain_turn, head_signs)

pub more_both-loop-turn-preserved : goal.more_both-loop-turn-preserved
unfolding chain
more_both-loop-turn-preserved c = grind (arith, chain_turn, head_signs)
