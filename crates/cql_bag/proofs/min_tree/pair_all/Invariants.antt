use Rattle.std.proofs.Common.{ℕ, ◌≡◌, ◌<◌, ◌≤◌, length}
use Rattle.cql_bag.specs.Levels.{lists_of, level_at, halved}
use Rattle.cql_bag.proofs.min_tree.pair_all.Given as goal

abbrev pub invariant-loop-level : goal.invariant-loop-level
invariant-loop-level l =
    let old = lists_of l.initial.levels.items in
    let now = lists_of l.levels.items in
    record {
      count : length l.levels.items ≡ length l.initial.levels.items;
      done : (k : ℕ) → k < l.level → level_at now k ≡ halved k (level_at old 0);
      ahead : (k : ℕ) → l.level ≤ k → level_at now k ≡ level_at old k;
    }
