use Rattle.std.proofs.lemmas.Bool.{false≢true}
use Rattle.std.proofs.lemmas.Grind.{common_steps}
use Rattle.std.proofs.Common.{arith, ◌++◌, ap, sym, ◌∙◌}
use Rattle.std.specs.Prelude.{codes}
use Rattle.cql_reply.specs.Line.{list_text}
use Rattle.cql_reply.specs.Place.{list_rest}
use Rattle.cql_wire.specs.Line.{query_text, readable_text, stream_text}
use Rattle.cql_wire.specs.Listing.{query_rest, readable_rest, stream_rest, behind_queries, behind_readable, listing_rest, parts_left}
use Rattle.cql_wire.proofs.Listings.{heading_told, next_told}
use Rattle.cql_wire.proofs.listing_place.ListingPlace.fill.Goals as goal

pub parts-preserved-in-Beginning : goal.parts-preserved-in-Beginning
parts-preserved-in-Beginning c =
    let l = c.args.listing.now in (
      heading_told c.parts.room.bytes c.put.new.self.bytes (codes "{\"queries\":") (list_rest query_text query_rest l.queries c.start.result) (list_text query_text l.queries) (behind_queries l) c.put.ensures.bytes (c.start.ensures l.queries)
          ∙ ap (λ place. c.parts.room.bytes ++ listing_rest l place) (sym c.in-Beginning.is)
          ∙ c.parts.invariant.0,
      grind (arith, common_steps),
      grind (arith, common_steps),
    )

pub parts-preserved-in-Queries : goal.parts-preserved-in-Queries
parts-preserved-in-Queries c =
    let l = c.args.listing.now in (
      next_told query_text query_rest c.as_slice.result.now l.queries c.in-Queries.place c.parts.room.bytes c.fill_list.new.room.bytes (codes ",\"readable\":") (list_rest readable_text readable_rest l.readable c.start-in-Queries.result)
          (list_text readable_text l.readable) (behind_readable l) _ c.as_slice.ensures (c.fill_list.ensures.told c.if-not-fill_list.false) (c.start-in-Queries.ensures l.readable)
          (ap (λ place. c.parts.room.bytes ++ listing_rest l place) (sym c.in-Queries.is) ∙ c.parts.invariant.0),
      grind (arith, common_steps),
      grind (arith, common_steps),
    )

pub parts-preserved-in-Readable : goal.parts-preserved-in-Readable
parts-preserved-in-Readable c =
    let l = c.args.listing.now in (
      next_told readable_text readable_rest c.as_slice-in-Readable.result.now l.readable c.in-Readable.place c.parts.room.bytes c.fill_list-in-Readable.new.room.bytes (codes ",\"streams\":") (list_rest stream_text stream_rest l.streams c.start-in-Readable.result)
          (list_text stream_text l.streams) (codes "}\n") _ c.as_slice-in-Readable.ensures (c.fill_list-in-Readable.ensures.told c.if-not-fill_list-2.false) (c.start-in-Readable.ensures l.streams)
          (ap (λ place. c.parts.room.bytes ++ listing_rest l place) (sym c.in-Readable.is) ∙ c.parts.invariant.0),
      grind (arith, common_steps),
      grind (arith, common_steps),
    )

pub parts-smaller-in-Beginning : goal.parts-smaller-in-Beginning
parts-smaller-in-Beginning c = omega (arith, ap parts_left c.in-Beginning.is)

pub parts-smaller-in-Queries : goal.parts-smaller-in-Queries
parts-smaller-in-Queries c = omega (arith, ap parts_left c.in-Queries.is)

pub parts-smaller-in-Readable : goal.parts-smaller-in-Readable
parts-smaller-in-Readable c = omega (arith, ap parts_left c.in-Readable.is)

pub returns-then-not-fill_list-clause-told : goal.returns-then-not-fill_list-clause-told
returns-then-not-fill_list-clause-told c = grind (arith, common_steps)

pub returns-then-not-fill_list-2-clause-told : goal.returns-then-not-fill_list-2-clause-told
returns-then-not-fill_list-2-clause-told c = grind (arith, common_steps)

pub returns-then-not-fill_list-3-clause-told : goal.returns-then-not-fill_list-3-clause-told
returns-then-not-fill_list-3-clause-told c = grind (arith, common_steps)

pub returns-then-not-fill_list-clause-full : goal.returns-then-not-fill_list-clause-full
returns-then-not-fill_list-clause-full c = λ e. grind (arith, common_steps)

pub returns-then-not-fill_list-2-clause-full : goal.returns-then-not-fill_list-2-clause-full
returns-then-not-fill_list-2-clause-full c = λ e. grind (arith, common_steps)

pub returns-then-not-fill_list-3-clause-full : goal.returns-then-not-fill_list-3-clause-full
returns-then-not-fill_list-3-clause-full c = λ e. grind (arith, common_steps)

pub returns-then-not-has_room-clause-full : goal.returns-then-not-has_room-clause-full
returns-then-not-has_room-clause-full c = λ e. grind (arith, common_steps)

pub returns-then-not-fill_list-clause-done : goal.returns-then-not-fill_list-clause-done
returns-then-not-fill_list-clause-done c = λ e. absurd (false≢true e)

pub returns-then-not-fill_list-2-clause-done : goal.returns-then-not-fill_list-2-clause-done
returns-then-not-fill_list-2-clause-done c = λ e. absurd (false≢true e)

pub returns-then-not-fill_list-3-clause-done : goal.returns-then-not-fill_list-3-clause-done
returns-then-not-fill_list-3-clause-done c = λ e. absurd (false≢true e)

pub returns-in-Ended-clause-full : goal.returns-in-Ended-clause-full
returns-in-Ended-clause-full c = λ e. absurd (false≢true (sym e))
