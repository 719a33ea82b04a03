-- A text that is made of pieces, and what is to come of it from a place on.
use Rattle.std.specs.Prelude.{ℕ, List, [], ◌∷◌, ◌++◌, decimal, drop, flat_map, map}
use Rattle.json.specs.Print.{escape, quoted}
use Rattle.cql_value.specs.declared.schema.Column.{Column}
use Rattle.cql_reply.specs.declared.piece_place.Piece.{Piece}
use Rattle.cql_reply.specs.declared.piece_place.Piece.TheVariants.{Plain, Number, Escaped, Names}
use Rattle.cql_reply.specs.declared.piece_place.NamePlace.{NamePlace}
use Rattle.cql_reply.specs.declared.piece_place.PiecePlace.{PiecePlace}
use Rattle.cql_reply.specs.declared.piece_place.PiecesPlace.{PiecesPlace}
use Rattle.cql_reply.specs.Line.{list_text}
use Rattle.cql_reply.specs.Place.{list_rest, quoted_rest}

-- bytes as they stand, the digits of a number, a text that is escaped, or a list of texts
pub data PieceText : Type 0 where
  plain : List ℕ → PieceText
  number : ℕ → PieceText
  escaped : List ℕ → PieceText
  names : List (List ℕ) → PieceText

abbrev pub column_names : List Column → List (List ℕ)
column_names = map (λ (c : Column). c.name)

abbrev pub piece_of : Piece → PieceText
piece_of (Plain bytes) = plain bytes.now
piece_of (Number n) = number n
piece_of (Escaped text) = escaped text.now
piece_of (Names columns) = names (column_names columns.now)

abbrev pub piece_text : PieceText → List ℕ
piece_text (plain bytes) = bytes
piece_text (number n) = decimal n
piece_text (escaped text) = escape text
piece_text (names texts) = list_text quoted texts

abbrev pub pieces_text : List PieceText → List ℕ
pieces_text = flat_map piece_text

abbrev pub name_rest : List ℕ → NamePlace → List ℕ
name_rest name place = quoted_rest name place.text

abbrev pub column_text : Column → List ℕ
column_text c = quoted c.name

abbrev pub column_rest : Column → NamePlace → List ℕ
column_rest c place = name_rest c.name place

-- what is to come of a piece
abbrev pub piece_rest : PieceText → PiecePlace → List ℕ
piece_rest (plain bytes) place = drop place.at bytes
piece_rest (number n) place = drop place.at (decimal n)
piece_rest (escaped text) place = escape (drop place.at text)
piece_rest (names texts) place = list_rest quoted name_rest texts place.names

-- what is to come by the pieces from the place's own on
abbrev pub pieces_from : PiecePlace → List PieceText → List ℕ
pieces_from place [] = []
pieces_from place (piece ∷ later) = piece_rest piece place ++ pieces_text later

-- what is to come of a text of pieces
abbrev pub pieces_rest : List PieceText → PiecesPlace → List ℕ
pieces_rest pieces place = pieces_from place.inner (drop place.index pieces)
