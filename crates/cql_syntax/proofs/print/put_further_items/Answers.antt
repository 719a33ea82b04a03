use Rattle.cql_syntax.specs.Spelling.{spell_item}
use Rattle.cql_syntax.proofs.Pieces.{following_turn}
use Rattle.cql_syntax.proofs.print.put_further_items.Goals as goal

pub loop-rest-preserved : goal.loop-rest-preserved
loop-rest-preserved c =
    following_turn spell_item c.loop-rest.out c.symbol.new.self c.put_item.new.out c.item-item.result c.loop-rest.rest.now _ c.in-len1-up.len_at_least c.item-item.is c.in_ok-symbol.ensures c.in_ok-put_item.ensures c.loop-rest.invariant
