use Rattle.std.proofs.Common.{◌+◌, ◌≤◌, arith, subst, sym}
use Rattle.std.specs.Prelude.{vec_capacity, vec_len}
use Rattle.cql_sessions.proofs.spare_room.SpareRoom.lend.Goals as goal

pub returns-clause-room : goal.returns-clause-room
returns-clause-room c = subst (λ v. vec_len v + 196608 ≤ vec_capacity v) (sym c.swap.ensures.y_after) c.in_ok-reserve_exact-5.ensures.ok

pub returns-clause-unread : goal.returns-clause-unread
returns-clause-unread c = omega (arith, c.in_ok-reserve_exact.ensures.ok)
