use Rattle.std.proofs.Common.{◌<◌, length, get_or}
use Rattle.cql_bag.specs.Levels.{lists_of, level_at}
use Rattle.cql_bag.proofs.min_tree.MinTree.below.Given as goal

abbrev pub invariant-loop-level : goal.invariant-loop-level
invariant-loop-level l =
    let now = lists_of l.self-inside.levels.items in
    record {
      level : l.level < length l.self-inside.levels.items;
      index : l.index < length (level_at now l.level);
      below : get_or (level_at now l.level) l.index 0 < l.bound;
    }

abbrev pub decreases-loop-level : goal.decreases-loop-level
decreases-loop-level l = l.level
