use Rattle.std.proofs.Common.{arith}
use Rattle.std.proofs.lemmas.Grind.{common_steps}
use Rattle.cql_journal.proofs.Hiding.{seen}
use Rattle.cql_journal.proofs.searching.see.Goals as goal

pub returns-then-chain_at : goal.returns-then-chain_at
returns-then-chain_at g c = seen _ _ _ _ _ _ _ _ c.as_slice.ensures c.requires (c.chain_at.ensures.some c.if-chain_at.true) c.front_at.ensures

pub returns-else-chain_at : goal.returns-else-chain_at
returns-else-chain_at g c = grind (arith, common_steps)
