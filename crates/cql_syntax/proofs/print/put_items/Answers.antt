use Rattle.cql_syntax.specs.Spelling.{spell_item}
use Rattle.cql_syntax.proofs.Pieces.{separated_end}
use Rattle.cql_syntax.proofs.print.put_items.Goals as goal

pub returns-in_ok-put_further_items : goal.returns-in_ok-put_further_items
returns-in_ok-put_further_items c =
    separated_end spell_item c.args.out.now c.put_item.new.out c.put_further_items.new.out c.first-item.result c.args.items.now c.in-len1-up.len_at_least c.first-item.is c.in_ok-put_item.ensures c.in_ok-put_further_items.ensures
