use Rattle.std.proofs.Common.{◌≡◌, ℕ, ◌≤◌, ◌<◌, ◌+◌, ◌-◌, ◌/◌, List, length, drop, take, get_or, ap, sym, ◌∙◌, arith, length-drop}
use Rattle.std.proofs.lemmas.List.{get_or-drop, get_or-take, length-take}
use Rattle.cql_value.specs.Element.{Element}
use Rattle.cql_window.proofs.Ends.{before_le}
use Rattle.cql_store.proofs.Fit.{asc_take}
use Rattle.cql_store.proofs.Search.{before_at, past_at}
use Rattle.cql_store.proofs.moves.rows_between.Goals.{After-at}
use Rattle.cql_store.proofs.moves.rows_between.Goals as goal

-- the stretch has as many rows as its numbers say
long : (rows : List Element) (from to : ℕ) → from ≤ to → to ≤ length rows → length (take (to - from) (drop from rows)) ≡ to - from
long rows from to order within = omega (arith, length-take (to - from) (drop from rows), length-drop from rows, order, within)

pub loop-low-init : goal.loop-low-init
loop-low-init c = record {
  from = omega arith;
  order = c.requires.order;
  within = omega arith;
  below = omega arith;
  above = omega (arith, before_le c.args.end (take (c.args.to - c.args.from) (drop c.args.from c.args.rows.now)), long c.args.rows.now c.args.from c.args.to c.requires.order c.requires.within);
}

-- the row that is looked at, among those of the stretch
row_is : (c : After-at) → get_or (take (c.args.to - c.args.from) (drop c.args.from c.args.rows.now)) (c.loop-low.low + (c.loop-low.high - c.loop-low.low) / 2 - c.args.from) c.get.result.now ≡ c.get.result.now
row_is c =
    let middle = c.loop-low.low + (c.loop-low.high - c.loop-low.low) / 2 in
    let sum : c.args.from + (middle - c.args.from) ≡ middle = omega (arith, c.loop-low.invariant.from) in
    let inside : middle - c.args.from < c.args.to - c.args.from = omega (arith, c.loop-low.invariant.from, c.loop-low.invariant.within, c.loop-low-test.true) in
    get_or-take (c.args.to - c.args.from) (drop c.args.from c.args.rows.now) (middle - c.args.from) c.get.result.now inside
    ∙ get_or-drop c.args.from c.args.rows.now (middle - c.args.from) c.get.result.now
    ∙ ap (λ n. get_or c.args.rows.now n c.get.result.now) sum
    ∙ sym c.get.ensures

pub loop-low-preserved-then-at-end : goal.loop-low-preserved-then-at-end
loop-low-preserved-then-at-end c =
    let is = c.loop-low.invariant in
    let rows = take (c.args.to - c.args.from) (drop c.args.from c.args.rows.now) in
    let middle = c.loop-low.low + (c.loop-low.high - c.loop-low.low) / 2 in
    let row = row_is (goal.at.loop-low-preserved-then-at-end c).After-at in
    let early : (get_or rows (middle - c.args.from) c.get.result.now).at < c.args.end = omega (arith, ap (λ x. x.at) row, c.at.ensures, c.if-at-end.true) in
    let inside : middle - c.args.from < length rows = omega (arith, is.from, is.order, is.within, c.loop-low-test.true, long c.args.rows.now c.args.from c.args.to c.requires.order c.requires.within) in
    record {
      from = omega (arith, is.from);
      order = omega (arith, c.loop-low-test.true);
      within = is.within;
      below = omega (arith, is.from, before_at (middle - c.args.from) c.args.end rows c.get.result.now (asc_take (c.args.to - c.args.from) (drop c.args.from c.args.rows.now) c.requires.ascending) inside early);
      above = is.above;
    }

pub loop-low-preserved : goal.loop-low-preserved
loop-low-preserved c =
    let is = c.loop-low.invariant in
    let rows = take (c.args.to - c.args.from) (drop c.args.from c.args.rows.now) in
    let middle = c.loop-low.low + (c.loop-low.high - c.loop-low.low) / 2 in
    let row = row_is (goal.at.loop-low-preserved c).After-at in
    let late : c.args.end ≤ (get_or rows (middle - c.args.from) c.get.result.now).at = omega (arith, ap (λ x. x.at) row, c.at.ensures, c.if-at-end.false) in
    let inside : middle - c.args.from < length rows = omega (arith, is.from, is.order, is.within, c.loop-low-test.true, long c.args.rows.now c.args.from c.args.to c.requires.order c.requires.within) in
    record {
      from = is.from;
      order = omega arith;
      within = omega (arith, is.within, c.loop-low-test.true);
      below = is.below;
      above = past_at (middle - c.args.from) c.args.end rows c.get.result.now inside late;
    }
