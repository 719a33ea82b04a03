use Rattle.std.proofs.Common.{◌≡◌, ◌≤◌, ◌*◌, ◌-◌, ◌^◌, take}
use Rattle.std.specs.Prelude.{sum_by}
use Rattle.cql_hall.proofs.hall.total.Given as goal

abbrev pub invariant-loop-seat : goal.invariant-loop-seat
invariant-loop-seat l = record {
  sum : l.sum ≡ sum_by (λ s. s.count) (take l.seat-index l.seats);
  small : l.sum ≤ l.seat-index * (2 ^ 64 - 1);
}
