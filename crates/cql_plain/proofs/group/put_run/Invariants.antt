use Rattle.std.proofs.Common.{◌≡◌, ◌+◌, List, length}
use Rattle.cql_value.specs.declared.value.Value.{Value}
use Rattle.cql_bag.specs.Bag.{IsBag, count}
use Rattle.cql_bag.specs.Law.{ArePositive}
use Rattle.cql_plain.proofs.group.put_run.Given as goal

-- with the rows that are left each row counts as often as it will
abbrev pub invariant-loop-row : goal.invariant-loop-row
invariant-loop-row l = record {
  bag : IsBag l.group;
  some : ArePositive l.run.items;
  counts : (k : List Value) → count k l.group + count k l.run.items ≡ count k l.fn.group + count k l.fn.run.items;
}

abbrev pub decreases-loop-row : goal.decreases-loop-row
decreases-loop-row l = length l.run.items
