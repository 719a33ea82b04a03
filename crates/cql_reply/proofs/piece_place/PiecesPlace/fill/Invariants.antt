-- What was told and what is to come are what was to come; the measure is the number of pieces that are left.
use Rattle.std.proofs.Common.{◌≡◌, ◌≤◌, ◌++◌, length, map, ◌-◌}
use Rattle.cql_reply.specs.Pieces.{piece_of, pieces_rest}
use Rattle.cql_reply.proofs.piece_place.PiecesPlace.fill.Given as goal

abbrev pub invariant-loop-piece : goal.invariant-loop-piece
invariant-loop-piece l =
    (l.room.bytes ++ pieces_rest (map piece_of l.pieces) l.self ≡ l.fn.room.bytes ++ pieces_rest (map piece_of l.pieces) l.fn.self) × (length l.fn.room.bytes ≤ length l.room.bytes) × (l.room.size ≡ l.fn.room.size)

abbrev pub decreases-loop-piece : goal.decreases-loop-piece
decreases-loop-piece l = length l.pieces - l.self.index
