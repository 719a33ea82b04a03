use Rattle.std.proofs.Common.{ℕ, ◌≡◌, ◌<◌, length, get_or}
use Rattle.cql_bag.specs.Levels.{pair_least}
use Rattle.cql_bag.proofs.min_tree.pair_into.Given as goal

abbrev pub invariant-loop-index : goal.invariant-loop-index
invariant-loop-index l =
    record {
      count : length l.above.items ≡ length (pair_least l.below);
      done : (k : ℕ) → k < l.index → get_or l.above.items k 0 ≡ get_or (pair_least l.below) k 0;
    }
