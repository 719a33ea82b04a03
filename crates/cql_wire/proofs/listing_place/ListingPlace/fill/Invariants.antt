-- What was told and what is to come are what was to come; the measure is the number of parts that are left.
use Rattle.std.proofs.Common.{◌≡◌, ◌≤◌, ◌++◌, length}
use Rattle.cql_wire.specs.Listing.{listing_rest, parts_left}
use Rattle.cql_wire.proofs.listing_place.ListingPlace.fill.Given as goal

abbrev pub invariant-parts : goal.invariant-parts
invariant-parts l =
    (l.room.bytes ++ listing_rest l.listing l.self ≡ l.fn.room.bytes ++ listing_rest l.listing l.fn.self) × (length l.fn.room.bytes ≤ length l.room.bytes) × (l.room.size ≡ l.fn.room.size)

abbrev pub decreases-parts : goal.decreases-parts
decreases-parts l = parts_left l.self
