use Rattle.std.proofs.Common.{◌≤◌, ◌-◌, drop, take}
use Rattle.cql_window.specs.Window.{count_before}
use Rattle.cql_store.proofs.moves.rows_between.Given as goal

abbrev pub invariant-loop-low : goal.invariant-loop-low
invariant-loop-low l = record {
  from : l.from ≤ l.low;
  order : l.low ≤ l.high;
  within : l.high ≤ l.to;
  below : l.low - l.from ≤ count_before l.end (take (l.to - l.from) (drop l.from l.rows));
  above : count_before l.end (take (l.to - l.from) (drop l.from l.rows)) ≤ l.high - l.from;
}

abbrev pub decreases-loop-low : goal.decreases-loop-low
decreases-loop-low l = l.high - l.low
