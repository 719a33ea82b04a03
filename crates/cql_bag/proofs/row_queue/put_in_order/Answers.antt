use Rattle.std.proofs.lemmas.Grind.{common_steps}
use Rattle.std.proofs.Common.{sym, ap, ◌∙◌, subst, arith}
use Rattle.cql_bag.specs.Bag.{IsBag, put_rows}
use Rattle.cql_bag.proofs.Rows.{bag_put}
use Rattle.cql_bag.proofs.row_queue.put_in_order.Goals as goal

pub loop-row-preserved : goal.loop-row-preserved
loop-row-preserved c = record {
  rows = ap (put_rows c.pop_front.new.self.items) c.in_ok-add.ensures.ok ∙ sym (ap (λ l. put_rows l c.loop-row.ordered) c.in-Some.ensures.items) ∙ c.loop-row.invariant.rows;
  bag = subst IsBag (sym c.in_ok-add.ensures.ok) (bag_put c.in-Some.row 1 c.loop-row.ordered (omega arith) c.loop-row.invariant.bag);
}

pub returns-clause-rows : goal.returns-clause-rows
returns-clause-rows c = grind (arith, common_steps)

pub returns-clause-empty : goal.returns-clause-empty
returns-clause-empty c = grind (arith, common_steps)
