use Rattle.std.proofs.Common.{ℕ, ◌≡◌, ◌<◌, ◌≤◌, length, get_or, vec_len, vec_capacity, Vec, Global}
use Rattle.cql_bag.specs.Levels.{lists_of, level_at, halved, put}
use Rattle.cql_bag.proofs.min_tree.put_all.Given as goal

abbrev pub invariant-loop-level : goal.invariant-loop-level
invariant-loop-level l =
    let first = level_at (lists_of l.initial.levels.items) 0 in
    let now = lists_of l.levels.items in
    record {
      count : length l.levels.items ≡ length l.initial.levels.items;
      len : vec_len l.levels ≡ vec_len l.initial.levels;
      capacity : vec_capacity l.levels ≡ vec_capacity l.initial.levels;
      done : (k : ℕ) → k < l.level → level_at now k ≡ halved k (put first l.fn.index l.fn.number);
      ahead : (k : ℕ) → l.level ≤ k → k < length l.levels.items → level_at now k ≡ halved k first;
      room : (k : ℕ) (d : Vec ℕ Global) → l.level ≤ k → k < length l.levels.items → vec_len (get_or l.levels.items k d) < vec_capacity (get_or l.levels.items k d);
      here : halved l.level (put first l.fn.index l.fn.number) ≡ put (halved l.level first) l.index l.number;
      within : l.index ≤ length (halved l.level first);
    }
