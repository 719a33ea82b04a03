use Rattle.std.proofs.Common.{◌≡◌, ◌≤◌, ◌+◌, ◌*◌, ◌^◌, ◌+ℤ◌}
use Rattle.std.specs.Prelude.{unsigned_abs}
use Rattle.cql_bag.specs.Bag.{size_of}
use Rattle.cql_algebra.specs.Shape.{total}
use Rattle.cql_algebra.proofs.sum.total_of.Given as goal

-- the sum so far and that of the rows that are left; each row left has room
abbrev pub invariant-loop-row : goal.invariant-loop-row
invariant-loop-row l = record {
  rest : l.sum +ℤ total l.column l.row-iterator ≡ total l.column l.bag;
  small : unsigned_abs l.sum + size_of l.row-iterator * 2 ^ 63 ≤ size_of l.bag * 2 ^ 63;
}
