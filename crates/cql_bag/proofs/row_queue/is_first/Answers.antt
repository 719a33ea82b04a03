use Rattle.std.proofs.Common.{Some, sym, ap, ◌∙◌}
use Rattle.cql_value.proofs.Ties.{tied}
use Rattle.cql_bag.proofs.Orders.{first_at}
use Rattle.cql_bag.proofs.row_queue.is_first.Goals as goal

pub returns-in-Some : goal.returns-in-Some
returns-in-Some c = λ yes. first_at c.args.waiting.now.items c.in-Some.first.now c.in-Some.ensures.item.3.0 c.in-Some.ensures.lookup ∙ ap (λ r. Some r) (tied c.in-Some.first.now c.args.row.now (sym c.eq.ensures ∙ yes))
