use Rattle.std.proofs.Common.{◌≡◌, ◌++◌}
use Rattle.cql_bag.specs.Bag.{IsBag, listing, minus}
use Rattle.cql_bag.proofs.bag.Bag.excess.Given as goal

-- the rows that are left are to be listed
abbrev pub invariant-loop-row : goal.invariant-loop-row
invariant-loop-row l = record {
  rest : l.rows.items ++ listing (minus l.row-iterator l.left) ≡ listing (minus l.self l.over);
  rows : IsBag l.row-iterator;
  others : IsBag l.left;
}
