use Rattle.std.proofs.Common.{◌≤◌, length}
use Rattle.cql_bag.specs.Bag.{Counts, IsBag, put_all}
use Rattle.cql_bag.specs.Law.{ArePositive}
use Rattle.cql_algebra.specs.Shape.{key_of}
use Rattle.cql_plain.specs.Grouping.{IsSameMade}
use Rattle.cql_plain.proofs.group.take_run.Given as goal

-- the rows that are left make the same groups
abbrev pub invariant-loop-row : goal.invariant-loop-row
invariant-loop-row l = record {
  made : (group : Counts) → IsSameMade (key_of l.columns) l.key l.fn.left (put_all l.fn.run.items group) l.left (put_all l.run.items group);
  some : ArePositive l.run.items;
  bag : IsBag l.left;
  fewer : length l.left ≤ length l.fn.left;
}

abbrev pub decreases-loop-row : goal.decreases-loop-row
decreases-loop-row l = length l.left
