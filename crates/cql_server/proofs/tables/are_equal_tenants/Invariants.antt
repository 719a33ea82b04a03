use Rattle.std.proofs.Common.{◌≡◌, length}
use Rattle.cql_server.proofs.tables.are_equal_tenants.Given as goal

-- the lists are equal where what is left of them is
abbrev pub invariant-loop-x : goal.invariant-loop-x
invariant-loop-x l = l.left ≡ l.right → l.a ≡ l.b

abbrev pub decreases-loop-x : goal.decreases-loop-x
decreases-loop-x l = length l.left
