use Rattle.std.proofs.Common.{length}
use Rattle.cql_groups.specs.Filed.{IsFiled, groups_in, keys_in}
use Rattle.cql_groups.specs.Grouped.{IsGrouping, TellsGroups, told_of}
use Rattle.cql_groups.proofs.group.tell_groups.Given as goal

-- the keys that are left wait, and the others are told
abbrev pub invariant-loop-first : goal.invariant-loop-first
invariant-loop-first l = record {
  groups : IsGrouping l.layout l.port (told_of (groups_in l.groups)) (groups_in l.groups) (keys_in l.left);
  filed : IsFiled l.groups;
  told : TellsGroups l.layout.shape (told_of (groups_in l.fn.groups)) (told_of (groups_in l.groups)) l.fn.out.items l.out.items;
}

abbrev pub decreases-loop-first : goal.decreases-loop-first
decreases-loop-first l = length l.left
