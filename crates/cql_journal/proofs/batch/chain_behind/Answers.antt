use Rattle.std.proofs.Common.{ap, ◌∙◌, ◌++◌, take}
use Rattle.hex.specs.Hex.{encode_lower}
use Rattle.cql_journal.specs.Record.{chain_after}
use Rattle.cql_journal.proofs.batch.chain_behind.Goals as goal

pub returns-clause-chain : goal.returns-clause-chain
unfolding chain_after
returns-clause-chain c = λ front held. c.digits_of.ensures ∙ ap (λ d. encode_lower (take 8 d)) (c.finalize_reset.ensures.digest (front ++ c.args.text.now) (c.hash_rest.ensures front held))
