use Rattle.cql_reply.proofs.Pieces.{piece_begins}
use Rattle.cql_reply.proofs.piece_place.PiecePlace.start.Goals as goal

pub returns : goal.returns
returns c = piece_begins c.start.result c.start.ensures
