use Rattle.std.proofs.lemmas.Grind.{common_steps}
use Rattle.std.proofs.Common.{arith, rules, ◌<◌, ◌++◌, length}
use Rattle.cql_lines.specs.Watched.{inner_of, Grows}
use Rattle.cql_wire.specs.Line.{listing_line}
use Rattle.cql_wire.specs.Listing.{listing_rest}
use Rattle.cql_reply.proofs.Buffering.{leaves_told, leaves_written, leaves_front, shorter}
use Rattle.cql_wire.proofs.listing_place.put_listing.Goals as goal

pub rooms-smaller : goal.rooms-smaller
rooms-smaller g c =
    let line = listing_rest c.args.listing.now c.rooms.place in
    let left = listing_rest c.args.listing.now c.fill.new.self in
    let some : 0 < length c.fill.new.room.bytes = omega arith in
    shorter c.rooms.room.bytes line c.fill.new.room.bytes left c.flush.new.self.bytes c.fill.ensures.told c.in_ok-flush.ensures.emptied some

pub rooms-preserved : goal.rooms-preserved
rooms-preserved g c =
    let line = listing_rest c.args.listing.now c.rooms.place in
    let left = listing_rest c.args.listing.now c.fill.new.self in (
      leaves_written _ _ _ _ c.fill.new.room.bytes left c.flush.new.self.bytes (leaves_told _ _ _ c.rooms.room.bytes line c.fill.new.room.bytes left c.rooms.invariant.0 c.fill.ensures.told) c.in_ok-flush.ensures.ok
          c.in_ok-flush.ensures.emptied,
      search rules,
      grind (arith, common_steps),
    )

pub returns-in_err-flush-clause-buffers : goal.returns-in_err-flush-clause-buffers
returns-in_err-flush-clause-buffers g c =
    let line = listing_rest c.args.listing.now c.rooms.place in
    let left = listing_rest c.args.listing.now c.fill.new.self in
    let grows : Grows (g.W.Write.contents (inner_of c.args.writer.now)) (g.W.Write.contents (inner_of c.flush.new.writer)) (c.args.room.now.bytes ++ listing_line c.args.listing.now) =
    leaves_front _ _ _ _ c.fill.new.room.bytes left (leaves_told _ _ _ c.rooms.room.bytes line c.fill.new.room.bytes left c.rooms.invariant.0 c.fill.ensures.told) c.in_err-flush.ensures.err in
    grind (arith, common_steps)
