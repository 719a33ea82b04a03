use Rattle.cql_syntax.specs.Spelling.{spell_input}
use Rattle.cql_syntax.proofs.Pieces.{following_turn}
use Rattle.cql_syntax.proofs.print.put_further_inputs.Goals as goal

pub loop-rest-preserved : goal.loop-rest-preserved
loop-rest-preserved c =
    following_turn spell_input c.loop-rest.out c.symbol.new.self c.put_input.new.out c.input-item.result c.loop-rest.rest.now _ c.in-len1-up.len_at_least c.input-item.is c.in_ok-symbol.ensures c.in_ok-put_input.ensures c.loop-rest.invariant
