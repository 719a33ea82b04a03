use Rattle.std.proofs.Common.{◌≡◌, length}
use Rattle.cql_bag.specs.Bag.{IsBag, put_rows}
use Rattle.cql_bag.proofs.row_queue.put_in_order.Given as goal

-- those in order and those that still wait are the whole
abbrev pub invariant-loop-row : goal.invariant-loop-row
invariant-loop-row l = record {
  rows : put_rows l.waiting.items l.ordered ≡ put_rows l.fn.waiting.items l.fn.ordered;
  bag : IsBag l.ordered;
}

abbrev pub decreases-loop-row : goal.decreases-loop-row
decreases-loop-row l = length l.waiting.items
