use Rattle.std.proofs.Common.{ℕ, ◌≡◌, ◌<◌, length, get_or, vec_len, vec_capacity, Vec, Global}
use Rattle.cql_bag.specs.Levels.{lists_of}
use Rattle.cql_bag.proofs.min_tree.make_room.Given as goal

abbrev pub invariant-loop-level : goal.invariant-loop-level
invariant-loop-level l =
    record {
      count : length l.levels.items ≡ length l.initial.levels.items;
      same : lists_of l.levels.items ≡ lists_of l.initial.levels.items;
      room : (k : ℕ) (d : Vec ℕ Global) → k < l.level → vec_len (get_or l.levels.items k d) < vec_capacity (get_or l.levels.items k d);
    }
