use Rattle.cql_asked.proofs.Ruling.{items_len_view}
use Rattle.std.proofs.Common.{arith}
use Rattle.cql_asked.proofs.rules.rule_of_items.Goals as goal

pub returns : goal.returns
returns c = grind (arith, items_len_view)
