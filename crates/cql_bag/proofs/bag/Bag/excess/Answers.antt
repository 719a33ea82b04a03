use Rattle.std.proofs.Common.{arith}
use Rattle.cql_bag.proofs.Struck.{listed_on, nothing_listed}
use Rattle.cql_bag.proofs.Walks.{rest_bag}
use Rattle.cql_bag.proofs.bag.Bag.excess.Goals as goal

pub loop-row-preserved-in-Continue-branch-2 : goal.loop-row-preserved-in-Continue-branch-2
loop-row-preserved-in-Continue-branch-2 c = record {
  rest = listed_on c.loop-row.row-iterator c.next.new.self c.loop-row.left c.count_on.new.left (c.in-Some.row.now, c.in-Some.times.now) c.in_ok-less.less c.loop-row.rows.items c.list_times.new.rows.items _ c.in-Some.ensures.steps c.loop-row.invariant.rows c.in_ok-less.ensures.count c.in_ok-less.ensures.on c.in_ok-list_times.ensures c.loop-row.invariant.rest;
  rows = rest_bag _ _ _ c.in-Some.ensures.steps c.loop-row.invariant.rows;
  others = c.in_ok-less.ensures.bag;
}

pub loop-row-preserved : goal.loop-row-preserved
loop-row-preserved c = record {
  rest = listed_on c.loop-row.row-iterator c.next.new.self c.loop-row.left c.count_on.new.left (c.in-Some.row.now, c.in-Some.times.now) c.in_ok-less.less c.loop-row.rows.items c.loop-row.rows.items _ c.in-Some.ensures.steps c.loop-row.invariant.rows c.in_ok-less.ensures.count c.in_ok-less.ensures.on (nothing_listed _ _ _ (omega arith)) c.loop-row.invariant.rest;
  rows = rest_bag _ _ _ c.in-Some.ensures.steps c.loop-row.invariant.rows;
  others = c.in_ok-less.ensures.bag;
}
