use Rattle.std.proofs.Common.{◌≡◌, take, length}
use Rattle.cql_value.proofs.equals.slices_equal.Given as goal

-- the lists have one length, and are the same up to here
abbrev pub invariant-loop-i : goal.invariant-loop-i
invariant-loop-i g l = (length l.a ≡ length l.b) × (take l.i l.a ≡ take l.i l.b)
