use Rattle.std.proofs.Common.{◌≡◌, [], length}
use Rattle.std.specs.Option.{option_map}
use Rattle.cql_bag.specs.Bag.{IsBag}
use Rattle.cql_algebra.specs.Shape.{key_of}
use Rattle.cql_plain.specs.Grouping.{gather, entries_from}
use Rattle.cql_plain.proofs.group.groups.Given as goal

-- the rows that are left make the whole
abbrev pub invariant-loop-next : goal.invariant-loop-next
invariant-loop-next l = record {
  made : gather (key_of l.columns) (entries_from (option_map (λ e. (e.0.now, e.1.now)) l.next) l.left) l.groups.entries ≡ gather (key_of l.columns) l.bag [];
  bag : IsBag (entries_from (option_map (λ e. (e.0.now, e.1.now)) l.next) l.left);
}

abbrev pub decreases-loop-next : goal.decreases-loop-next
decreases-loop-next l = length (entries_from (option_map (λ e. (e.0.now, e.1.now)) l.next) l.left)
