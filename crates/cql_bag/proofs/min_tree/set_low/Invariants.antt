use Rattle.std.proofs.Common.{ℕ, ◌≡◌, ◌<◌, ◌≤◌, length, get_or, cond, nat_lt}
use Rattle.cql_bag.proofs.min_tree.set_low.Given as goal

abbrev pub invariant-loop-index : goal.invariant-loop-index
invariant-loop-index l =
    let first = l.initial.level.items in
    let now = l.level.items in
    record {
      count : length now ≡ length first;
      done : (k : ℕ) → k < l.index → get_or now k 0 ≡ cond (nat_lt (get_or first k 0) l.bound) l.number (get_or first k 0);
      ahead : (k : ℕ) → l.index ≤ k → get_or now k 0 ≡ get_or first k 0;
    }
