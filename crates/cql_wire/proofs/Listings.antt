-- Lemmas on the line of a list.
use Rattle.std.proofs.Common.{◌≡◌, ℕ, List, [], ◌∷◌, ◌++◌, Option, Some, None, map, refl, sym, ap, ◌∙◌, append_assoc, append-nil}
use Rattle.std.specs.Prelude.{codes, decimal, option_map}
use Rattle.json.specs.Print.{escape, quoted}
use Rattle.cql_tenants.specs.Listed.{GrantedStream}
use Rattle.cql_reply.specs.Pieces.{PieceText, plain, number, escaped, names, pieces_text}
use Rattle.cql_reply.specs.declared.list_place.ListPlace.{ListPlace}
use Rattle.cql_reply.specs.Place.{list_rest}
use Rattle.cql_wire.specs.Line.{shown_text, readable_name, readable_text}
use Rattle.cql_wire.specs.Listing.{named_pieces, shown_pieces}
use Rattle.cql_reply.proofs.Pieces.{dotted}

-- ---- a stream that was granted

behind_name : (s : GrantedStream) → pieces_text (named_pieces s) ≡ decimal s.opened ++ (codes ",\"stream\":" ++ (quoted (readable_name s) ++ codes "}"))
behind_name s = ap (λ l. decimal s.opened ++ (codes ",\"stream\":\"" ++ l)) (dotted s.owner s.stream (codes "}"))

shown_is : (columns : Option (List (List ℕ))) (behind : List PieceText) → pieces_text (shown_pieces columns behind) ≡ shown_text columns ++ pieces_text behind
shown_is None behind = refl
shown_is (Some columns) behind = ap (λ l. codes "{\"columns\":[" ++ l) (sym (append_assoc _ (codes ",\"open\":") (pieces_text behind)))

pub readable_is : (s : GrantedStream) → pieces_text (shown_pieces s.columns (named_pieces s)) ≡ readable_text s
readable_is s = shown_is s.columns (named_pieces s) ∙ ap (λ l. shown_text s.columns ++ l) (behind_name s)

-- the same pieces, by what was asked of the stream
pub named_as : (s : GrantedStream) (columns : Option (List (List ℕ))) (opened : ℕ) (owner stream : List ℕ) → columns ≡ s.columns → opened ≡ s.opened → owner ≡ s.owner → stream ≡ s.stream
    → shown_pieces columns (number opened ∷ plain (codes ",\"stream\":\"") ∷ escaped owner ∷ plain (codes ".") ∷ escaped stream ∷ plain (codes "\"}") ∷ []) ≡ shown_pieces s.columns (named_pieces s)
named_as s columns opened owner stream a b d e =
    ap (λ x. shown_pieces x (number opened ∷ plain (codes ",\"stream\":\"") ∷ escaped owner ∷ plain (codes ".") ∷ escaped stream ∷ plain (codes "\"}") ∷ [])) a
    ∙ ap (λ x. shown_pieces s.columns (number x ∷ plain (codes ",\"stream\":\"") ∷ escaped owner ∷ plain (codes ".") ∷ escaped stream ∷ plain (codes "\"}") ∷ [])) b
    ∙ ap (λ x. shown_pieces s.columns (number s.opened ∷ plain (codes ",\"stream\":\"") ∷ escaped x ∷ plain (codes ".") ∷ escaped stream ∷ plain (codes "\"}") ∷ [])) d
    ∙ ap (λ x. shown_pieces s.columns (number s.opened ∷ plain (codes ",\"stream\":\"") ∷ escaped s.owner ∷ plain (codes ".") ∷ escaped x ∷ plain (codes "\"}") ∷ [])) e

-- ---- lines

-- what stands before a list was told, and the list begins
pub heading_told : (before after heading list text behind : List ℕ) → after ≡ before ++ heading → list ≡ text → after ++ (list ++ behind) ≡ before ++ (heading ++ (text ++ behind))
heading_told before after heading list text behind is same =
    ap (λ l. l ++ (list ++ behind)) is ∙ append_assoc before heading (list ++ behind) ∙ ap (λ l. before ++ (heading ++ (l ++ behind))) same

-- a list was told to its end, with what stands before the next, which begins
pub next_told : {A P : Type 0} (text : A → List ℕ) (rest : A → P → List ℕ) (slice items : List A) (place : ListPlace P) (before after heading list begun behind all : List ℕ) → slice ≡ items
    → after ≡ before ++ (list_rest text rest slice place ++ heading) → list ≡ begun → before ++ (list_rest text rest items place ++ (heading ++ (begun ++ behind))) ≡ all → after ++ (list ++ behind) ≡ all
next_told text rest slice items place before after heading list begun behind all are told same whole =
    let left = list_rest text rest slice place in
    heading_told before after (left ++ heading) list begun behind told same
    ∙ ap (λ l. before ++ l) (append_assoc left heading (begun ++ behind))
    ∙ ap (λ xs. before ++ (list_rest text rest xs place ++ (heading ++ (begun ++ behind)))) are
    ∙ whole
