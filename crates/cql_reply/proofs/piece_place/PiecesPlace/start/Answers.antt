use Rattle.cql_reply.proofs.Pieces.{pieces_begin}
use Rattle.cql_reply.proofs.piece_place.PiecesPlace.start.Goals as goal

pub returns : goal.returns
returns c = pieces_begin c.start.result c.start.ensures
