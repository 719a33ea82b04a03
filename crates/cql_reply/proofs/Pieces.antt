-- Lemmas on places in pieces.
use Rattle.std.proofs.Common.{◌≡◌, ℕ, ◌+◌, ◌-◌, ◌<◌, Bool, true, false, List, [], ◌∷◌, ◌++◌, length, take, drop, get_or, map, arith, refl, sym, ap, subst, ◌∙◌, append_assoc, take-append-drop}
use Rattle.std.specs.Bool.{if◌then◌else◌}
use Rattle.std.specs.Prelude.{codes}
use Rattle.std.proofs.lemmas.List.{drop-map, drop-drop, drop_more, take_all, length-drop}
use Rattle.json.specs.Print.{escape, escape_byte, quoted}
use Rattle.cql_value.specs.declared.schema.Column.{Column}
use Rattle.cql_value.specs.declared.schema.ColumnType.TheVariants.{Number}
use Rattle.cql_reply.specs.declared.list_place.ListStage.{ListStage}
use Rattle.cql_reply.specs.declared.list_place.ListStage.TheVariants.{Opening, Later, Inside, Shut}
use Rattle.cql_reply.specs.declared.list_place.ListPlace.{ListPlace}
use Rattle.cql_reply.specs.declared.piece_place.NamePlace.{NamePlace}
use Rattle.cql_reply.specs.declared.piece_place.Piece.{Piece}
use Rattle.cql_reply.specs.declared.piece_place.PiecePlace.{PiecePlace}
use Rattle.cql_reply.specs.declared.piece_place.PiecesPlace.{PiecesPlace}
use Rattle.cql_reply.proofs.Escaping.{escape-append}
use Rattle.cql_reply.specs.Line.{items_text, list_text}
use Rattle.cql_reply.specs.Place.{items_rest, list_rest}
use Rattle.cql_reply.specs.Pieces.{PieceText, plain, number, escaped, names, piece_of, piece_text, pieces_text, pieces_from, pieces_rest, piece_rest, name_rest, column_text, column_rest, column_names}
use Rattle.cql_reply.proofs.Telling.{told_behind}

-- ---- lists, by what stands for each item

items_by : {A B : Type 0} (f : A → B) (text : B → List ℕ) (later : Bool) (xs : List A) → items_text text later (map f xs) ≡ items_text (λ x. text (f x)) later xs
items_by f text later [] = refl
items_by f text later (x ∷ xs) = ap (λ l. (if later then codes "," else []) ++ (text (f x) ++ l)) (items_by f text true xs)

rest_by : {A B P : Type 0} (f : A → B) (text : B → List ℕ) (rest : B → P → List ℕ) (stage : ListStage) (inner : P) (xs : List A)
    → items_rest text rest stage inner (map f xs) ≡ items_rest (λ x. text (f x)) (λ x p. rest (f x) p) stage inner xs
rest_by f text rest Opening inner xs = ap (λ l. codes "[" ++ l) (items_by f text false xs)
rest_by f text rest Later inner xs = items_by f text true xs
rest_by f text rest Inside inner [] = refl
rest_by f text rest Inside inner (x ∷ xs) = ap (λ l. rest (f x) inner ++ l) (items_by f text true xs)
rest_by f text rest Shut inner xs = refl

-- the names of columns, and the columns
names_by : (columns : List Column) → list_text quoted (column_names columns) ≡ list_text column_text columns
names_by columns = ap (λ l. codes "[" ++ l) (items_by (λ (c : Column). c.name) quoted false columns)

places_by : (columns : List Column) (place : ListPlace NamePlace) → list_rest quoted name_rest (column_names columns) place ≡ list_rest column_text column_rest columns place
places_by columns place =
    ap (items_rest quoted name_rest place.stage place.inner) (drop-map (λ (c : Column). c.name) place.index columns)
    ∙ rest_by (λ (c : Column). c.name) quoted name_rest place.stage place.inner (drop place.index columns)

pub told_names : (columns : List Column) (before after : List ℕ) (old new : ListPlace NamePlace) → after ++ list_rest column_text column_rest columns new ≡ before ++ list_rest column_text column_rest columns old
    → after ++ list_rest quoted name_rest (column_names columns) new ≡ before ++ list_rest quoted name_rest (column_names columns) old
told_names columns before after old new told = ap (λ l. after ++ l) (places_by columns new) ∙ told ∙ ap (λ l. before ++ l) (sym (places_by columns old))

pub names_told : (columns : List Column) (place : ListPlace NamePlace) → list_rest column_text column_rest columns place ≡ [] → list_rest quoted name_rest (column_names columns) place ≡ []
names_told columns place told = places_by columns place ∙ told

-- some columns have these names
columns_of : (texts : List (List ℕ)) → (columns : List Column) × (column_names columns ≡ texts)
columns_of [] = ([], refl)
columns_of (text ∷ texts) =
    let (columns, are) = columns_of texts in
    (record { name = text; kind = Number } ∷ columns, ap (λ l. text ∷ l) are)

-- ---- pieces

-- the place before all of any piece
pub piece_begins : (place : ListPlace NamePlace) → ((columns : List Column) → list_rest column_text column_rest columns place ≡ list_text column_text columns) → (piece : PieceText) → piece_rest piece (record { at = 0; names = place }) ≡ piece_text piece
piece_begins place begins (plain bytes) = refl
piece_begins place begins (number n) = refl
piece_begins place begins (escaped text) = refl
piece_begins place begins (names texts) =
    let (columns, are) = columns_of texts in
    subst (λ ts. list_rest quoted name_rest ts place ≡ list_text quoted ts) are (places_by columns place ∙ begins columns ∙ sym (names_by columns))

-- that before all of any pieces
pub pieces_begin : (place : PiecePlace) → ((piece : PieceText) → piece_rest piece place ≡ piece_text piece) → (pieces : List PieceText) → pieces_from place pieces ≡ pieces_text pieces
pieces_begin place begins [] = refl
pieces_begin place begins (piece ∷ later) = ap (λ l. l ++ pieces_text later) (begins piece)

-- some bytes were told, from a place on
pub told_plain : (before after bytes : List ℕ) (at count : ℕ) → after ≡ before ++ take count (take (length bytes - at) (drop at bytes)) → after ++ drop (at + count) bytes ≡ before ++ drop at bytes
told_plain before after bytes at count is =
    let long : length (drop at bytes) ≡ length bytes - at = length-drop at bytes in
    let whole : take (length bytes - at) (drop at bytes) ≡ drop at bytes = take_all (length bytes - at) (drop at bytes) (omega (arith, long)) in
    ap (λ l. l ++ drop (at + count) bytes) (is ∙ ap (λ l. before ++ take count l) whole) ∙ append_assoc before (take count (drop at bytes)) (drop (at + count) bytes)
    ∙ ap (λ l. before ++ l) (ap (λ l. take count (drop at bytes) ++ l) (sym (drop-drop count at bytes)) ∙ take-append-drop count (drop at bytes))

-- the piece at a place, and those behind it
pub piece_at : (pieces : List Piece) (i : ℕ) (piece : Piece) → i < length pieces → piece ≡ get_or pieces i piece → drop i (map piece_of pieces) ≡ piece_of piece ∷ drop (i + 1) (map piece_of pieces)
piece_at pieces i piece below is =
    drop-map piece_of i pieces ∙ ap (map piece_of) (drop_more pieces i piece below) ∙ ap (λ p. piece_of p ∷ map piece_of (drop (i + 1) pieces)) (sym is)
    ∙ ap (λ l. piece_of piece ∷ l) (sym (drop-map piece_of (i + 1) pieces))

-- some of the piece at a place was told
pub piece_told : (before after all : List ℕ) (pieces : List Piece) (i : ℕ) (piece : Piece) (old new : PiecePlace) → i < length pieces → piece ≡ get_or pieces i piece
    → after ++ piece_rest (piece_of piece) new ≡ before ++ piece_rest (piece_of piece) old → before ++ pieces_from old (drop i (map piece_of pieces)) ≡ all → after ++ pieces_from new (drop i (map piece_of pieces)) ≡ all
piece_told before after all pieces i piece old new below is told whole =
    let here = piece_at pieces i piece below is in
    ap (λ l. after ++ pieces_from new l) here
    ∙ told_behind before after (piece_rest (piece_of piece) old) (piece_rest (piece_of piece) new) (pieces_text (drop (i + 1) (map piece_of pieces))) told
    ∙ ap (λ l. before ++ pieces_from old l) (sym here) ∙ whole

-- all of it was told, and the next one comes
pub next_piece : (before after all : List ℕ) (pieces : List Piece) (i : ℕ) (piece : Piece) (old new next : PiecePlace) → i < length pieces → piece ≡ get_or pieces i piece
    → after ++ piece_rest (piece_of piece) new ≡ before ++ piece_rest (piece_of piece) old → before ++ pieces_from old (drop i (map piece_of pieces)) ≡ all → piece_rest (piece_of piece) new ≡ []
    → ((p : PieceText) → piece_rest p next ≡ piece_text p) → after ++ pieces_from next (drop (i + 1) (map piece_of pieces)) ≡ all
next_piece before after all pieces i piece old new next below is told whole none begins =
    let later = drop (i + 1) (map piece_of pieces) in
    ap (λ l. after ++ l) (pieces_begin next begins later ∙ ap (λ l. l ++ pieces_text later) (sym none))
    ∙ ap (λ l. after ++ pieces_from new l) (sym (piece_at pieces i piece below is))
    ∙ piece_told before after all pieces i piece old new below is told whole

-- other words for the same pieces
pub told_as : (before after : List ℕ) (pieces same : List PieceText) (old new : PiecesPlace) → pieces ≡ same → after ++ pieces_rest pieces new ≡ before ++ pieces_rest pieces old → after ++ pieces_rest same new ≡ before ++ pieces_rest same old
told_as before after pieces same old new is told = subst (λ ps. after ++ pieces_rest ps new ≡ before ++ pieces_rest ps old) is told

pub none_as : (pieces same : List PieceText) (place : PiecesPlace) → pieces ≡ same → pieces_rest pieces place ≡ [] → pieces_rest same place ≡ []
none_as pieces same place is none = subst (λ ps. pieces_rest ps place ≡ []) is none

-- two texts with a dot between them, and a quote behind
pub dotted : (a b behind : List ℕ) → escape a ++ (codes "." ++ (escape b ++ 34 ∷ behind)) ≡ (escape (a ++ (codes "." ++ b)) ++ 34 ∷ []) ++ behind
unfolding escape_byte
dotted a b behind =
    sym (ap (λ l. (l ++ 34 ∷ []) ++ behind) (escape-append a (46 ∷ b)) ∙ append_assoc (escape a ++ 46 ∷ escape b) (34 ∷ []) behind ∙ append_assoc (escape a) (46 ∷ escape b) (34 ∷ behind))
