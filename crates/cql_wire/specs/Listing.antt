-- What is to come of the line of a list, from a place on.
use Rattle.std.specs.Prelude.{ℕ, List, [], ◌∷◌, ◌++◌, Option, Some, None, codes}
use Rattle.cql_tenants.specs.declared.readable.OwnStream.{OwnStream}
use Rattle.cql_tenants.specs.Listed.{GrantedStream}
use Rattle.cql_core.specs.declared.listing.OwnQuery.{OwnQuery}
use Rattle.cql_core.specs.declared.listing.Listing.{Listing}
use Rattle.cql_reply.specs.Place.{list_rest}
use Rattle.cql_reply.specs.Pieces.{PieceText, plain, number, escaped, names, pieces_rest}
use Rattle.cql_wire.specs.declared.listing_place.QueryPlace.{QueryPlace}
use Rattle.cql_wire.specs.declared.listing_place.ReadablePlace.{ReadablePlace}
use Rattle.cql_wire.specs.declared.listing_place.StreamPlace.{StreamPlace}
use Rattle.cql_wire.specs.declared.listing_place.ListingPlace.{ListingPlace}
use Rattle.cql_wire.specs.declared.listing_place.ListingPlace.TheVariants.{Beginning, Queries, Readable, Streams, Ended}
use Rattle.cql_wire.specs.Line.{query_text, readable_text, all_readable_text, stream_text, streams_text, listing_line}

-- ---- what is told of each

abbrev pub query_pieces : OwnQuery → List PieceText
query_pieces q =
    plain (codes "{\"base\":") ∷ number q.base ∷ plain (codes ",\"name\":\"") ∷ escaped q.name ∷ plain (codes "\",\"next\":") ∷ number q.next
    ∷ plain (codes ",\"text\":\"") ∷ escaped q.text ∷ plain (codes "\"}") ∷ []

abbrev pub query_rest : OwnQuery → QueryPlace → List ℕ
query_rest q place = pieces_rest (query_pieces q) place.pieces

-- the time, and the names of its owner and of itself in one text
abbrev pub named_pieces : GrantedStream → List PieceText
named_pieces s = number s.opened ∷ plain (codes ",\"stream\":\"") ∷ escaped s.owner ∷ plain (codes ".") ∷ escaped s.stream ∷ plain (codes "\"}") ∷ []

abbrev pub shown_pieces : Option (List (List ℕ)) → List PieceText → List PieceText
shown_pieces None behind = plain (codes "{\"open\":") ∷ behind
shown_pieces (Some columns) behind = plain (codes "{\"columns\":") ∷ names columns ∷ plain (codes ",\"open\":") ∷ behind

abbrev pub readable_rest : GrantedStream → ReadablePlace → List ℕ
readable_rest s place = pieces_rest (shown_pieces s.columns (named_pieces s)) place.pieces

abbrev pub stream_pieces : OwnStream → List PieceText
stream_pieces s = plain (codes "{\"name\":\"") ∷ escaped s.name ∷ plain (codes "\",\"open\":") ∷ number s.opened ∷ plain (codes "}") ∷ []

abbrev pub stream_rest : OwnStream → StreamPlace → List ℕ
stream_rest s place = pieces_rest (stream_pieces s) place.pieces

-- ---- lines

-- what stands behind the queries
abbrev pub behind_queries : Listing → List ℕ
behind_queries l = codes ",\"readable\":" ++ (all_readable_text l.readable ++ (codes ",\"streams\":" ++ (streams_text l.streams ++ codes "}\n")))

-- what stands behind the streams that were granted
abbrev pub behind_readable : Listing → List ℕ
behind_readable l = codes ",\"streams\":" ++ (streams_text l.streams ++ codes "}\n")

-- what is to come of a line
abbrev pub listing_rest : Listing → ListingPlace → List ℕ
listing_rest l Beginning = listing_line l
listing_rest l (Queries place) = list_rest query_text query_rest l.queries place ++ behind_queries l
listing_rest l (Readable place) = list_rest readable_text readable_rest l.readable place ++ behind_readable l
listing_rest l (Streams place) = list_rest stream_text stream_rest l.streams place ++ codes "}\n"
listing_rest l Ended = []

-- how many parts are yet to come
abbrev pub parts_left : ListingPlace → ℕ
parts_left Beginning = 4
parts_left (Queries place) = 3
parts_left (Readable place) = 2
parts_left (Streams place) = 1
parts_left Ended = 0
