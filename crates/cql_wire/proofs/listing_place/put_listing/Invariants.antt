-- Of what is held and of the line, a front was written, and the rest is left; each writing takes some of it.
use Rattle.std.proofs.Common.{◌≡◌, ◌+◌, ◌++◌, length}
use Rattle.cql_lines.specs.Watched.{inner_of, has_failed}
use Rattle.cql_reply.specs.Buffered.{Leaves}
use Rattle.cql_wire.specs.Line.{listing_line}
use Rattle.cql_wire.specs.Listing.{listing_rest}
use Rattle.cql_wire.proofs.listing_place.put_listing.Given as goal

abbrev pub invariant-rooms : goal.invariant-rooms
invariant-rooms g l =
    Leaves (g.W.Write.contents (inner_of l.fn.writer)) (g.W.Write.contents (inner_of l.writer)) (l.fn.room.bytes ++ listing_line l.listing) (l.room.bytes ++ listing_rest l.listing l.place)
    × (l.room.size ≡ l.fn.room.size) × (has_failed l.writer ≡ has_failed l.fn.writer)

abbrev pub decreases-rooms : goal.decreases-rooms
decreases-rooms g l = length l.room.bytes + length (listing_rest l.listing l.place)
