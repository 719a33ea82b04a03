use Rattle.cql_reply.proofs.Telling.{block_begins}
use Rattle.cql_reply.proofs.block_place.BlockPlaceTextPlace.start.Goals as goal

pub returns : goal.returns
returns c = block_begins c.start.result c.start.ensures
