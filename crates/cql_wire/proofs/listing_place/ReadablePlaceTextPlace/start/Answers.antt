use Rattle.std.proofs.Common.{◌∙◌}
use Rattle.cql_wire.specs.Listing.{named_pieces, shown_pieces}
use Rattle.cql_wire.proofs.Listings.{readable_is}
use Rattle.cql_wire.proofs.listing_place.ReadablePlaceTextPlace.start.Goals as goal

pub returns : goal.returns
returns c = λ whole. c.start.ensures (shown_pieces whole.columns (named_pieces whole)) ∙ readable_is whole
