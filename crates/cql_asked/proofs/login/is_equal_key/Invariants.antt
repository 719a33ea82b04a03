use Rattle.std.proofs.Common.{◌≡◌, ◌↔◌, take}
use Rattle.cql_asked.proofs.login.is_equal_key.Given as goal

-- nothing differs yet exactly where the bytes so far are the same
abbrev pub invariant-loop-offset : goal.invariant-loop-offset
invariant-loop-offset l = (l.differences ≡ 0) ↔ (take l.offset l.given ≡ take l.offset l.kept)
