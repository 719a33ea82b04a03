use Rattle.std.proofs.Common.{◌≡◌, ◌↔◌, IsTrue, length, take}
use Rattle.cql_chunks.proofs.words.are_equal.Given as goal

-- the words have one length; up to here they are the same or it was seen that they aren't
abbrev pub invariant-loop-i : goal.invariant-loop-i
invariant-loop-i l = (length l.a ≡ length l.b) × (IsTrue l.same ↔ (take l.i l.a ≡ take l.i l.b))
