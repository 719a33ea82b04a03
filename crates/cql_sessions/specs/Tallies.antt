-- Receipts of a session.
use Rattle.std.specs.Prelude.{◌≡◌, ℕ, Bool, true, false, List, [], Option, None, Some, All}
use Rattle.cql_hall.specs.declared.hall.Seat.{Seat}
use Rattle.cql_hall.specs.declared.hall.Receipt.{Receipt}
use Rattle.cql_hall.specs.Audit.{placed}

-- how many calls a seat has counted; where there is none, none
abbrev pub counted_by : Option Seat → ℕ
counted_by None = 0
counted_by (Some s) = s.count

-- where calls are kept, as many have a place as the seat has counted; else there are none. All are of the seat's tenant
abbrev pub Tallies : Bool → Seat → List Receipt → Type 0
Tallies keeps seat receipts =
    (keeps ≡ true → placed receipts ≡ seat.count)
    × All (λ r. r.tenant ≡ seat.tenant) receipts
    × (keeps ≡ false → receipts ≡ [])
