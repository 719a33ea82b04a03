use Rattle.std.proofs.lemmas.Grind.{common_steps}
use Rattle.std.proofs.Common.{arith}
use Rattle.cql_text.proofs.Steps.{chain_turn, head_signs}
use Rattle.cql_text.specs.Readers.{names}
use Rattle.cql_text.specs.Reading.{list_of, chain_of, chain}
use Rattle.cql_text.proofs.window.names.Goals as goal

pub loop-turn-preserved : goal.loop-turn-preserved
unfolding names list_of chain_of chain
loop-turn-preserved c = grind (arith, common_steps, chain_turn, head_signs)

pub returns-in_err-name-2 : goal.returns-in_err-name-2
unfolding names list_of chain_of chain
returns-in_err-name-2 c = grind (arith, common_steps, chain_turn, head_signs)

pub returns-then-not-sees : goal.returns-then-not-sees
unfolding names list_of chain_of chain
returns-then-not-sees c = grind (arith, common_steps, chain_turn, head_signs)
