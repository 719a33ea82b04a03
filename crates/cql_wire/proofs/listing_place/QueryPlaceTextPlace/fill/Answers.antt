use Rattle.cql_wire.proofs.listing_place.QueryPlaceTextPlace.fill.Goals as goal

pub returns-clause-grows : goal.returns-clause-grows
returns-clause-grows c = c.fill.ensures.grows

pub returns-clause-size : goal.returns-clause-size
returns-clause-size c = c.fill.ensures.size

pub returns-clause-full : goal.returns-clause-full
returns-clause-full c = c.fill.ensures.full
