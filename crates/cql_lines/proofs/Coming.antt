-- Lemmas on inputs of which a part has come.
use Rattle.std.proofs.Common.{◌≡◌, ℕ, Bool, true, false, List, [], ◌∷◌, ◌++◌, take, drop, refl, ap, sym, ◌∙◌, append_assoc, append-nil, take-append-drop}
use Rattle.std.specs.Bool.{if◌then◌else◌}
use Rattle.std.proofs.lemmas.List.{append_cancel_right}
use Rattle.std.proofs.lemmas.List.Elements.{All-append, All-cons, All-nil, filter_map-append}
use Rattle.std.proofs.lemmas.List.Splits.{slice_split_none}
use Rattle.std.specs.List.{filter_map, cons_option, slice_split}
use Rattle.cql_lines.specs.declared.intake.Taken.{Taken}
use Rattle.cql_lines.specs.Coming.{HasCome}
use Rattle.cql_lines.specs.Pieces.{Takes}
use Rattle.cql_lines.specs.Text.{LineText, is_feed, HasNoFeed, line_found, lines_of, joined}
use Rattle.cql_lines.proofs.Finding.{line_found-kept, joined-push}
use Rattle.cql_lines.proofs.Pieces.{kept-nil}
use Rattle.cql_lines.proofs.Splitting.{split-joined}

pub nothing_came : HasCome [] [] [] false
nothing_came = record {
  raws = [];
  rest = [];
  each = All-nil HasNoFeed;
  part = All-nil (λ b. is_feed b ≡ false);
  bytes_are = refl;
  lines_are = refl;
  line_is = kept-nil;
}

-- the bytes in front of the rest
front_is : (bytes piece : List ℕ) (n : ℕ) (whole : Bool) → bytes ≡ piece ++ (if whole then 10 ∷ drop n bytes else drop n bytes) → take n bytes ≡ piece ++ (if whole then 10 ∷ [] else [])
front_is bytes piece n true is =
    append_cancel_right (take n bytes) (piece ++ 10 ∷ []) (drop n bytes) (take-append-drop n bytes ∙ is ∙ sym (append_assoc piece (10 ∷ []) (drop n bytes)))
front_is bytes piece n false is =
    append_cancel_right (take n bytes) (piece ++ []) (drop n bytes) (take-append-drop n bytes ∙ is ∙ sym (append_assoc piece [] (drop n bytes)))

-- more bytes of the line came, and its line feed where there was one
pub more_came : (bytes more : List ℕ) (lines : List LineText) (old new : List ℕ) (taken : Taken) → HasCome bytes lines old false → Takes more old new taken → HasCome (bytes ++ take taken.count more) lines new taken.is_whole
more_came bytes more lines old new taken come takes =
    let (piece_taken, within, some) = takes in
    let piece = piece_taken.piece in
    let feed = if taken.is_whole then 10 ∷ [] else [] in
    let front = front_is more piece taken.count taken.is_whole piece_taken.held_is in
    record {
      raws = come.raws;
      rest = come.rest ++ piece;
      each = come.each;
      part = All-append (λ b. is_feed b ≡ false) come.rest piece come.part piece_taken.no_feed;
      bytes_are =
          ap (λ l. l ++ take taken.count more) (come.bytes_are ∙ ap (λ l. joined come.raws ++ l) (append-nil come.rest))
          ∙ ap (λ l. (joined come.raws ++ come.rest) ++ l) front
          ∙ append_assoc (joined come.raws) come.rest (piece ++ feed)
          ∙ ap (λ l. joined come.raws ++ l) (sym (append_assoc come.rest piece feed));
      lines_are = come.lines_are;
      line_is = piece_taken.line come.rest come.line_is;
    }

-- a line is done with, and the next one begins
pub next_comes : (bytes : List ℕ) (lines : List LineText) (line : List ℕ) → HasCome bytes lines line true → HasCome bytes (lines ++ cons_option (line_found line) []) [] false
next_comes bytes lines line come = record {
  raws = come.raws ++ come.rest ∷ [];
  rest = [];
  each = All-append HasNoFeed come.raws (come.rest ∷ []) come.each (All-cons HasNoFeed come.rest [] come.part (All-nil HasNoFeed));
  part = All-nil (λ b. is_feed b ≡ false);
  bytes_are = come.bytes_are ∙ sym (joined-push come.raws come.rest) ∙ sym (append-nil (joined (come.raws ++ come.rest ∷ [])));
  lines_are =
      ap (λ l. l ++ cons_option (line_found line) []) come.lines_are
      ∙ ap (λ o. filter_map line_found come.raws ++ cons_option o []) (sym (line_found-kept come.rest line come.line_is))
      ∙ sym (filter_map-append line_found come.raws (come.rest ∷ []));
  line_is = kept-nil;
}

-- whatever follows, these lines come first
pub front_of_all : (bytes : List ℕ) (lines : List LineText) (line : List ℕ) → HasCome bytes lines line false → (more : List ℕ) → (rest : List LineText) × (lines_of (bytes ++ more) ≡ lines ++ rest)
front_of_all bytes lines line come more =
    let text : bytes ++ more ≡ joined come.raws ++ ((come.rest ++ []) ++ more) = ap (λ l. l ++ more) come.bytes_are ∙ append_assoc (joined come.raws) (come.rest ++ []) more in (
      lines_of ((come.rest ++ []) ++ more),
      ap lines_of text
          ∙ ap (filter_map line_found) (split-joined come.raws ((come.rest ++ []) ++ more) come.each)
          ∙ filter_map-append line_found come.raws (slice_split is_feed ((come.rest ++ []) ++ more))
          ∙ ap (λ l. l ++ lines_of ((come.rest ++ []) ++ more)) (sym come.lines_are),
    )

-- the lines of all, where nothing follows
pub all_came : (bytes : List ℕ) (lines : List LineText) (line : List ℕ) → HasCome bytes lines line false → lines_of bytes ≡ lines ++ cons_option (line_found line) []
all_came bytes lines line come =
    ap lines_of (come.bytes_are ∙ ap (λ l. joined come.raws ++ l) (append-nil come.rest))
    ∙ ap (filter_map line_found) (split-joined come.raws come.rest come.each)
    ∙ filter_map-append line_found come.raws (slice_split is_feed come.rest)
    ∙ ap (λ l. l ++ filter_map line_found (slice_split is_feed come.rest)) (sym come.lines_are)
    ∙ ap (λ l. lines ++ filter_map line_found l) (slice_split_none is_feed come.rest come.part)
    ∙ ap (λ o. lines ++ cons_option o []) (line_found-kept come.rest line come.line_is)
