use Rattle.std.proofs.lemmas.Grind.{common_steps}
use Rattle.std.proofs.Common.{arith}
use Rattle.cql_text.proofs.Steps.{chain_turn, head_signs}
use Rattle.cql_text.specs.Readers.{items}
use Rattle.cql_text.specs.Reading.{list_of, chain_of, chain}
use Rattle.cql_text.proofs.item.items.Goals as goal

pub loop-turn-preserved : goal.loop-turn-preserved
unfolding items list_of chain_of chain
loop-turn-preserved c = grind (arith, common_steps, chain_turn, head_signs)

pub returns-in_err-item-2 : goal.returns-in_err-item-2
unfolding items list_of chain_of chain
returns-in_err-item-2 c = grind (arith, common_steps, chain_turn, head_signs)

pub returns-then-not-sees : goal.returns-then-not-sees
unfolding items list_of chain_of chain
returns-then-not-sees c = grind (arith, common_steps, chain_turn, head_signs)

pub loop-turn-init : goal.loop-turn-init
unfolding items list_of chain_of chain
loop-turn-init c = grind (arith, chain_turn, head_signs)
