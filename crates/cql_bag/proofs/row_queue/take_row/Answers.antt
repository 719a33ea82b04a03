use Rattle.std.proofs.Common.{drop, sym, ap, ◌∙◌, subst}
use Rattle.cql_bag.specs.Bag.{IsBag, put_rows, less_one, count}
use Rattle.cql_bag.proofs.Rows.{bag_less}
use Rattle.cql_bag.proofs.Orders.{first_goes, first_of, ordered_goes, none_goes, no_more}
use Rattle.cql_bag.proofs.row_queue.take_row.Goals as goal

pub returns-then-is_first-clause-rows : goal.returns-then-is_first-clause-rows
returns-then-is_first-clause-rows c =
    let rows = c.args.waiting.now.items in
    ap (λ l. put_rows l c.args.ordered.now) c.pop_front.ensures.rest ∙ first_goes rows (drop 1 rows) c.args.row.now c.args.ordered.now c.requires (first_of rows c.args.row.now (c.is_first.ensures c.if-is_first.true))

pub returns-then-take-clause-bag : goal.returns-then-take-clause-bag
returns-then-take-clause-bag c = subst IsBag (sym c.take.ensures.new) (bag_less c.args.row.now c.args.ordered.now c.requires)

pub returns-then-take-clause-rows : goal.returns-then-take-clause-rows
returns-then-take-clause-rows c =
    ap (put_rows c.args.waiting.now.items) c.take.ensures.new ∙ ordered_goes c.args.waiting.now.items c.args.row.now c.args.ordered.now c.requires (c.take.ensures.was.0 c.if-take.true)

pub put_in_order-requires : goal.put_in_order-requires
put_in_order-requires c = subst IsBag (sym c.take.ensures.new) (bag_less c.args.row.now c.args.ordered.now c.requires)

pub returns-clause-bag : goal.returns-clause-bag
returns-clause-bag c = subst IsBag (sym c.take-2.ensures.new) (bag_less c.args.row.now c.put_in_order.new.ordered c.put_in_order.ensures.bag)

pub returns-clause-rows : goal.returns-clause-rows
returns-clause-rows c =
    let rows = c.args.waiting.now.items in
    let row = c.args.row.now in
    let bag = c.args.ordered.now in
    let none = none_goes row bag c.requires (no_more (count row bag) (λ some. sym (c.take.ensures.was.1 some) ∙ c.if-take.false)) in
    ap (λ l. put_rows l c.take-2.new.self) c.in_ok-put_in_order.ensures.empty ∙ c.take-2.ensures.new ∙ ap (less_one row) (c.in_ok-put_in_order.ensures.rows ∙ ap (put_rows rows) (c.take.ensures.new ∙ none))
