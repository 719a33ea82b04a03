use Rattle.std.proofs.Common.{ℕ, ◌≡◌, ◌<◌, ◌≤◌, length, set}
use Rattle.cql_bag.specs.Levels.{lists_of, level_at, halved}
use Rattle.cql_bag.proofs.min_tree.MinTree.set.Given as goal

abbrev pub invariant-loop-level : goal.invariant-loop-level
invariant-loop-level l =
    let first = level_at (lists_of l.initial.self-inside.levels.items) 0 in
    let now = lists_of l.self-inside.levels.items in
    record {
      count : length l.self-inside.levels.items ≡ length l.initial.self-inside.levels.items;
      done : (k : ℕ) → k < l.level → level_at now k ≡ halved k (set first l.fn.index l.fn.number);
      ahead : (k : ℕ) → l.level ≤ k → k < length l.self-inside.levels.items → level_at now k ≡ halved k first;
      here : halved l.level (set first l.fn.index l.fn.number) ≡ set (halved l.level first) l.index l.number;
      within : l.index < length (halved l.level first);
    }
