-- A printed text is cut into the tokens that were printed.
use Rattle.std.proofs.Common.{◌≡◌, ◌<◌, ◌≤◌, ℕ, suc, ◌+◌, ◌-◌, ◌*◌, ◌/◌, ◌%◌, ◌^◌, min, pos, negsuc, Bool, true, false, not, ◌&&◌, ◌==◌, eqb, nat_le, [], ◌∷◌, ◌++◌, fold, length, drop, take, slice_index, Option, Some, None, is_some, refl, sym, ap, ◌∙◌, subst, append_assoc, length-append, arith, if◌then◌else◌}
use Rattle.std.proofs.lemmas.Bool.Decides.{nat_tests}
use Rattle.std.proofs.lemmas.List.Folds.{prefix_len-append}
use Rattle.std.proofs.lemmas.Fmt.{decimal_by_steps}
use Rattle.std.specs.Fmt.{decimal, signed_decimal}
use Rattle.std.specs.Char.{is_ascii_digit}
use Rattle.std.specs.List.{prefix_len, list_all}
use Rattle.cql_value.specs.Name.{is_word_start, is_word_byte, is_word, is_reserved, is_name}
use Rattle.cql_syntax.specs.declared.token.Fixed.{Fixed}
use Rattle.cql_syntax.specs.declared.token.Fixed.TheVariants as k
use Rattle.cql_syntax.specs.declared.token.Token.{Token}
use Rattle.cql_syntax.specs.declared.token.Token.TheVariants as t
use Rattle.cql_syntax.specs.Tokens.{Tokens, tokens_of}
use Rattle.cql_syntax.specs.Lex.{Bytes, scan, lexed, token, sign, is_blank, quoted, reserved, word, number, value}
use Rattle.cql_syntax.specs.Spelling.{Piece, symbol, call, name, number as number_piece, text, Pieces, number_tokens, piece_tokens, pieces_tokens, doubled, symbol_text, piece_text, is_tight, is_opening, takes_space, leaves_space, space, spelled}
use Rattle.cql_text.proofs.Laws.{ArePlain}
use Rattle.cql_syntax.proofs.Reserved.{reserved_as_name}
use Rattle.cql_syntax.proofs.LexLemmas.{scan_end, scan_blank, scan_token, word_starts}

is_39 : (b : ℕ) → (b == 39) ≡ true → b ≡ 39
is_39 b h = grind (arith, nat_tests)

-- what is quoted is read again, where no quote follows
pub quoted_doubled : (s rest : Bytes) → quoted true rest ≡ Some ([], 0) → quoted false (doubled s ++ rest) ≡ Some (s, length (doubled s))
quoted_doubled [] rest h = rw h refl
quoted_doubled (b ∷ s) rest h = at (quoted_doubled s rest h) (b == 39) refl
  where
    at : quoted false (doubled s ++ rest) ≡ Some (s, length (doubled s)) → (c : Bool) → (b == 39) ≡ c →
        quoted false ((if c then 39 ∷ 39 ∷ doubled s else b ∷ doubled s) ++ rest) ≡ Some (b ∷ s, length (if c then 39 ∷ 39 ∷ doubled s else b ∷ doubled s))
    at ih true e =
        let f : length (doubled s) + 1 + 1 ≡ suc (suc (length (doubled s))) = omega arith in
        rw ih (ap (λ n. Some (39 ∷ s, n)) f ∙ ap (λ c. Some (c ∷ s, suc (suc (length (doubled s))))) (sym (is_39 b e)))
    at ih false e =
        let f : length (doubled s) + 1 ≡ suc (length (doubled s)) = omega arith in
        rw (e, ih) (ap (λ n. Some (b ∷ s, n)) f)

-- a text cut into tokens, with blanks between them
pub data Cuts : Tokens → Bytes → Type 0 where
  cut_end : Cuts [] []
  cut_blank : (b : ℕ) (ts : Tokens) (z : Bytes) → is_blank b ≡ true → Cuts ts z → Cuts ts (b ∷ z)
  cut_token : (a : Token) (ts : Tokens) (b : ℕ) (w z : Bytes) → is_blank b ≡ false → token ((b ∷ w) ++ z) ≡ Some (a, length (b ∷ w)) → Cuts ts z → Cuts (a ∷ ts) ((b ∷ w) ++ z)

drop_front : (w z : Bytes) → drop (length w) (w ++ z) ≡ z
drop_front [] z = refl
drop_front (b ∷ w) z = drop_front w z

pub cuts_lexed : (ts : Tokens) (z : Bytes) → Cuts ts z → (at : ℕ) → (tokens_of (scan 0 at z).lexemes ≡ ts) × ((scan 0 at z).fault ≡ None)
cuts_lexed ts z cut_end at = rw (scan_end at) (refl, refl)
cuts_lexed ts z (cut_blank b _ y h c) at = rw (scan_blank at b y h) (cuts_lexed ts y c (at + 1))
cuts_lexed ts z (cut_token a us b w y h e c) at =
    let n = length (b ∷ w) in
    let ih = cuts_lexed us y c (at + n) in
    let f = scan_token at b (w ++ y) a n h e (omega arith) (omega (arith, length-append w y)) in
    rw (f, drop_front (b ∷ w) y) (ap (λ l. a ∷ l) ih.0, ih.1)

prefix_all : (s rest : Bytes) → prefix_len is_word_byte s ≡ length s → prefix_len is_word_byte rest ≡ 0 → prefix_len is_word_byte (s ++ rest) ≡ length s
prefix_all s rest all cut = let r : eqb (length s) (length s) ≡ true = grind (arith, nat_tests) in rw (prefix_len-append is_word_byte s rest, all, r, cut) (omega arith)

take_front : (s rest : Bytes) → take (length s) (s ++ rest) ≡ s
take_front [] rest = refl
take_front (b ∷ s) rest = ap (λ z. b ∷ z) (take_front s rest)

-- ---- where a token ends

-- no byte that would go on with a token
abbrev pub IsEnd : Bytes → Type 0
IsEnd rest = (prefix_len is_word_byte rest ≡ 0) × (prefix_len is_ascii_digit rest ≡ 0) × (quoted true rest ≡ Some ([], 0)) × ((slice_index rest 0 == 61) ≡ false) × ((slice_index rest 0 == 62) ≡ false)

pub end_open : (rest : Bytes) → IsEnd (40 ∷ rest)
end_open rest = (refl, refl, refl, refl, refl)

pub end_spelled : (ps : Pieces) → IsEnd (spelled true ps)
unfolding is_tight symbol_text
end_spelled [] = (refl, refl, refl, refl, refl)
end_spelled (symbol k.All ∷ ps) = (refl, refl, refl, refl, refl)
end_spelled (symbol k.And ∷ ps) = (refl, refl, refl, refl, refl)
end_spelled (symbol k.As ∷ ps) = (refl, refl, refl, refl, refl)
end_spelled (symbol k.By ∷ ps) = (refl, refl, refl, refl, refl)
end_spelled (symbol k.Count ∷ ps) = (refl, refl, refl, refl, refl)
end_spelled (symbol k.Distinct ∷ ps) = (refl, refl, refl, refl, refl)
end_spelled (symbol k.Dstream ∷ ps) = (refl, refl, refl, refl, refl)
end_spelled (symbol k.Except ∷ ps) = (refl, refl, refl, refl, refl)
end_spelled (symbol k.From ∷ ps) = (refl, refl, refl, refl, refl)
end_spelled (symbol k.Group ∷ ps) = (refl, refl, refl, refl, refl)
end_spelled (symbol k.Istream ∷ ps) = (refl, refl, refl, refl, refl)
end_spelled (symbol k.Max ∷ ps) = (refl, refl, refl, refl, refl)
end_spelled (symbol k.Min ∷ ps) = (refl, refl, refl, refl, refl)
end_spelled (symbol k.Not ∷ ps) = (refl, refl, refl, refl, refl)
end_spelled (symbol k.Now ∷ ps) = (refl, refl, refl, refl, refl)
end_spelled (symbol k.Or ∷ ps) = (refl, refl, refl, refl, refl)
end_spelled (symbol k.Partition ∷ ps) = (refl, refl, refl, refl, refl)
end_spelled (symbol k.Range ∷ ps) = (refl, refl, refl, refl, refl)
end_spelled (symbol k.Rows ∷ ps) = (refl, refl, refl, refl, refl)
end_spelled (symbol k.Rstream ∷ ps) = (refl, refl, refl, refl, refl)
end_spelled (symbol k.Select ∷ ps) = (refl, refl, refl, refl, refl)
end_spelled (symbol k.Slide ∷ ps) = (refl, refl, refl, refl, refl)
end_spelled (symbol k.Sum ∷ ps) = (refl, refl, refl, refl, refl)
end_spelled (symbol k.Unbounded ∷ ps) = (refl, refl, refl, refl, refl)
end_spelled (symbol k.Union ∷ ps) = (refl, refl, refl, refl, refl)
end_spelled (symbol k.Where ∷ ps) = (refl, refl, refl, refl, refl)
end_spelled (symbol k.Open ∷ ps) = (refl, refl, refl, refl, refl)
end_spelled (symbol k.Close ∷ ps) = (refl, refl, refl, refl, refl)
end_spelled (symbol k.OpenSquare ∷ ps) = (refl, refl, refl, refl, refl)
end_spelled (symbol k.CloseSquare ∷ ps) = (refl, refl, refl, refl, refl)
end_spelled (symbol k.Comma ∷ ps) = (refl, refl, refl, refl, refl)
end_spelled (symbol k.Dot ∷ ps) = (refl, refl, refl, refl, refl)
end_spelled (symbol k.Semicolon ∷ ps) = (refl, refl, refl, refl, refl)
end_spelled (symbol k.Star ∷ ps) = (refl, refl, refl, refl, refl)
end_spelled (symbol k.Plus ∷ ps) = (refl, refl, refl, refl, refl)
end_spelled (symbol k.Minus ∷ ps) = (refl, refl, refl, refl, refl)
end_spelled (symbol k.Equal ∷ ps) = (refl, refl, refl, refl, refl)
end_spelled (symbol k.Unequal ∷ ps) = (refl, refl, refl, refl, refl)
end_spelled (symbol k.Less ∷ ps) = (refl, refl, refl, refl, refl)
end_spelled (symbol k.LessOrEqual ∷ ps) = (refl, refl, refl, refl, refl)
end_spelled (symbol k.Greater ∷ ps) = (refl, refl, refl, refl, refl)
end_spelled (symbol k.GreaterOrEqual ∷ ps) = (refl, refl, refl, refl, refl)
end_spelled (call j ∷ ps) = (refl, refl, refl, refl, refl)
end_spelled (name s ∷ ps) = (refl, refl, refl, refl, refl)
end_spelled (number_piece z ∷ ps) = (refl, refl, refl, refl, refl)
end_spelled (text s ∷ ps) = (refl, refl, refl, refl, refl)

-- ---- words and signs

-- the text is one token, where such a rest follows
abbrev IsCut : Token → Bytes → Bytes → Type 0
IsCut a z rest = (b : ℕ) × (w : Bytes) × (z ≡ b ∷ w) × (is_blank b ≡ false) × (token ((b ∷ w) ++ rest) ≡ Some (a, length (b ∷ w)))

cut_on : (a : Token) (ts : Tokens) (z rest : Bytes) → IsCut a z rest → Cuts ts rest → Cuts (a ∷ ts) (z ++ rest)
cut_on a ts z rest h c = subst (λ y. Cuts (a ∷ ts) (y ++ rest)) (sym h.2) (cut_token a ts h.0 h.1 rest h.3 h.4 c)

word_read : (b : ℕ) (w rest : Bytes) (j : Fixed) → is_word_start b ≡ true → prefix_len is_word_byte (b ∷ w) ≡ length (b ∷ w) → reserved (b ∷ w) ≡ Some j → IsEnd rest → token ((b ∷ w) ++ rest) ≡ Some (t.Fixed j, length (b ∷ w))
unfolding token word
word_read b w rest j s all known h =
    let n : prefix_len is_word_byte ((b ∷ w) ++ rest) ≡ length (b ∷ w) = prefix_all (b ∷ w) rest all h.0 in
    let f : take (length (b ∷ w)) ((b ∷ w) ++ rest) ≡ b ∷ w = take_front (b ∷ w) rest in
    rw (s, n, f, known) refl

fixed_cut : (j : Fixed) (rest : Bytes) → IsEnd rest → IsCut (t.Fixed j) (symbol_text j) rest
unfolding symbol_text reserved token sign
fixed_cut k.All rest h = (65, 76 ∷ 76 ∷ [], refl, refl, word_read 65 (76 ∷ 76 ∷ []) rest k.All refl refl refl h)
fixed_cut k.And rest h = (65, 78 ∷ 68 ∷ [], refl, refl, word_read 65 (78 ∷ 68 ∷ []) rest k.And refl refl refl h)
fixed_cut k.As rest h = (65, 83 ∷ [], refl, refl, word_read 65 (83 ∷ []) rest k.As refl refl refl h)
fixed_cut k.By rest h = (66, 89 ∷ [], refl, refl, word_read 66 (89 ∷ []) rest k.By refl refl refl h)
fixed_cut k.Count rest h = (67, 79 ∷ 85 ∷ 78 ∷ 84 ∷ [], refl, refl, word_read 67 (79 ∷ 85 ∷ 78 ∷ 84 ∷ []) rest k.Count refl refl refl h)
fixed_cut k.Distinct rest h = (68, 73 ∷ 83 ∷ 84 ∷ 73 ∷ 78 ∷ 67 ∷ 84 ∷ [], refl, refl, word_read 68 (73 ∷ 83 ∷ 84 ∷ 73 ∷ 78 ∷ 67 ∷ 84 ∷ []) rest k.Distinct refl refl refl h)
fixed_cut k.Dstream rest h = (68, 83 ∷ 84 ∷ 82 ∷ 69 ∷ 65 ∷ 77 ∷ [], refl, refl, word_read 68 (83 ∷ 84 ∷ 82 ∷ 69 ∷ 65 ∷ 77 ∷ []) rest k.Dstream refl refl refl h)
fixed_cut k.Except rest h = (69, 88 ∷ 67 ∷ 69 ∷ 80 ∷ 84 ∷ [], refl, refl, word_read 69 (88 ∷ 67 ∷ 69 ∷ 80 ∷ 84 ∷ []) rest k.Except refl refl refl h)
fixed_cut k.From rest h = (70, 82 ∷ 79 ∷ 77 ∷ [], refl, refl, word_read 70 (82 ∷ 79 ∷ 77 ∷ []) rest k.From refl refl refl h)
fixed_cut k.Group rest h = (71, 82 ∷ 79 ∷ 85 ∷ 80 ∷ [], refl, refl, word_read 71 (82 ∷ 79 ∷ 85 ∷ 80 ∷ []) rest k.Group refl refl refl h)
fixed_cut k.Istream rest h = (73, 83 ∷ 84 ∷ 82 ∷ 69 ∷ 65 ∷ 77 ∷ [], refl, refl, word_read 73 (83 ∷ 84 ∷ 82 ∷ 69 ∷ 65 ∷ 77 ∷ []) rest k.Istream refl refl refl h)
fixed_cut k.Max rest h = (77, 65 ∷ 88 ∷ [], refl, refl, word_read 77 (65 ∷ 88 ∷ []) rest k.Max refl refl refl h)
fixed_cut k.Min rest h = (77, 73 ∷ 78 ∷ [], refl, refl, word_read 77 (73 ∷ 78 ∷ []) rest k.Min refl refl refl h)
fixed_cut k.Not rest h = (78, 79 ∷ 84 ∷ [], refl, refl, word_read 78 (79 ∷ 84 ∷ []) rest k.Not refl refl refl h)
fixed_cut k.Now rest h = (78, 79 ∷ 87 ∷ [], refl, refl, word_read 78 (79 ∷ 87 ∷ []) rest k.Now refl refl refl h)
fixed_cut k.Or rest h = (79, 82 ∷ [], refl, refl, word_read 79 (82 ∷ []) rest k.Or refl refl refl h)
fixed_cut k.Partition rest h = (80, 65 ∷ 82 ∷ 84 ∷ 73 ∷ 84 ∷ 73 ∷ 79 ∷ 78 ∷ [], refl, refl, word_read 80 (65 ∷ 82 ∷ 84 ∷ 73 ∷ 84 ∷ 73 ∷ 79 ∷ 78 ∷ []) rest k.Partition refl refl refl h)
fixed_cut k.Range rest h = (82, 65 ∷ 78 ∷ 71 ∷ 69 ∷ [], refl, refl, word_read 82 (65 ∷ 78 ∷ 71 ∷ 69 ∷ []) rest k.Range refl refl refl h)
fixed_cut k.Rows rest h = (82, 79 ∷ 87 ∷ 83 ∷ [], refl, refl, word_read 82 (79 ∷ 87 ∷ 83 ∷ []) rest k.Rows refl refl refl h)
fixed_cut k.Rstream rest h = (82, 83 ∷ 84 ∷ 82 ∷ 69 ∷ 65 ∷ 77 ∷ [], refl, refl, word_read 82 (83 ∷ 84 ∷ 82 ∷ 69 ∷ 65 ∷ 77 ∷ []) rest k.Rstream refl refl refl h)
fixed_cut k.Select rest h = (83, 69 ∷ 76 ∷ 69 ∷ 67 ∷ 84 ∷ [], refl, refl, word_read 83 (69 ∷ 76 ∷ 69 ∷ 67 ∷ 84 ∷ []) rest k.Select refl refl refl h)
fixed_cut k.Slide rest h = (83, 76 ∷ 73 ∷ 68 ∷ 69 ∷ [], refl, refl, word_read 83 (76 ∷ 73 ∷ 68 ∷ 69 ∷ []) rest k.Slide refl refl refl h)
fixed_cut k.Sum rest h = (83, 85 ∷ 77 ∷ [], refl, refl, word_read 83 (85 ∷ 77 ∷ []) rest k.Sum refl refl refl h)
fixed_cut k.Unbounded rest h = (85, 78 ∷ 66 ∷ 79 ∷ 85 ∷ 78 ∷ 68 ∷ 69 ∷ 68 ∷ [], refl, refl, word_read 85 (78 ∷ 66 ∷ 79 ∷ 85 ∷ 78 ∷ 68 ∷ 69 ∷ 68 ∷ []) rest k.Unbounded refl refl refl h)
fixed_cut k.Union rest h = (85, 78 ∷ 73 ∷ 79 ∷ 78 ∷ [], refl, refl, word_read 85 (78 ∷ 73 ∷ 79 ∷ 78 ∷ []) rest k.Union refl refl refl h)
fixed_cut k.Where rest h = (87, 72 ∷ 69 ∷ 82 ∷ 69 ∷ [], refl, refl, word_read 87 (72 ∷ 69 ∷ 82 ∷ 69 ∷ []) rest k.Where refl refl refl h)
fixed_cut k.Open rest h = (40, [], refl, refl, refl)
fixed_cut k.Close rest h = (41, [], refl, refl, refl)
fixed_cut k.OpenSquare rest h = (91, [], refl, refl, refl)
fixed_cut k.CloseSquare rest h = (93, [], refl, refl, refl)
fixed_cut k.Comma rest h = (44, [], refl, refl, refl)
fixed_cut k.Dot rest h = (46, [], refl, refl, refl)
fixed_cut k.Semicolon rest h = (59, [], refl, refl, refl)
fixed_cut k.Star rest h = (42, [], refl, refl, refl)
fixed_cut k.Plus rest h = (43, [], refl, refl, refl)
fixed_cut k.Minus rest h = (45, [], refl, refl, refl)
fixed_cut k.Equal rest h = (61, [], refl, refl, refl)
fixed_cut k.Unequal rest h = (60, 62 ∷ [], refl, refl, refl)
fixed_cut k.Less rest h = (60, [], refl, refl, rw (h.3, h.4) refl)
fixed_cut k.LessOrEqual rest h = (60, 61 ∷ [], refl, refl, refl)
fixed_cut k.Greater rest h = (62, [], refl, refl, rw (h.3) refl)
fixed_cut k.GreaterOrEqual rest h = (62, 61 ∷ [], refl, refl, refl)

-- what opens ends itself
opening_cut : (j : Fixed) (rest : Bytes) → is_opening j ≡ true → IsCut (t.Fixed j) (symbol_text j) rest
unfolding symbol_text is_opening token sign
opening_cut k.Open rest h = (40, [], refl, refl, refl)
opening_cut k.OpenSquare rest h = (91, [], refl, refl, refl)
opening_cut k.Dot rest h = (46, [], refl, refl, refl)
opening_cut _ rest h = cc

minus_cut : (rest : Bytes) → IsCut (t.Fixed k.Minus) (45 ∷ []) rest
unfolding token sign
minus_cut rest = (45, [], refl, refl, refl)

-- ---- names

not_reserved : (s : Bytes) → is_reserved s ≡ false → reserved s ≡ None
not_reserved s h = none (reserved s) (reserved_as_name s ∙ h)
  where
    none : (o : Option Fixed) → is_some o ≡ false → o ≡ None
    none None k = refl
    none (Some j) k = cc

and_left : (a b : Bool) → (a && b) ≡ true → a ≡ true
and_left true b h = refl
and_left false b h = cc

and_right : (a b : Bool) → (a && b) ≡ true → b ≡ true
and_right true b h = h
and_right false b h = cc

not_true : (a : Bool) → not a ≡ true → a ≡ false
not_true true h = cc
not_true false h = refl

all_prefix : (w : Bytes) → list_all is_word_byte w ≡ true → prefix_len is_word_byte w ≡ length w
all_prefix [] h = refl
all_prefix (b ∷ w) h =
    let e = and_left (is_word_byte b) (list_all is_word_byte w) h in
    let f = all_prefix w (and_right (is_word_byte b) (list_all is_word_byte w) h) in
    rw (e, f) (omega arith)

name_cut : (s rest : Bytes) → is_name s ≡ true → IsEnd rest → IsCut (t.Word s) s rest
unfolding token word
name_cut [] rest h g = cc
name_cut (b ∷ w) rest h g = (b, w, refl, blank, read)
  where
    inner : (is_word (b ∷ w) && nat_le (length (b ∷ w)) 32) ≡ true
    inner = and_left (is_word (b ∷ w) && nat_le (length (b ∷ w)) 32) (not (is_reserved (b ∷ w))) h

    so : is_word (b ∷ w) ≡ true
    so = and_left (is_word (b ∷ w)) (nat_le (length (b ∷ w)) 32) inner

    start : is_word_start b ≡ true
    start = and_left (is_word_start b) (list_all is_word_byte w) so

    free : reserved (b ∷ w) ≡ None
    free = not_reserved (b ∷ w) (not_true (is_reserved (b ∷ w)) (and_right (is_word (b ∷ w) && nat_le (length (b ∷ w)) 32) (not (is_reserved (b ∷ w))) h))

    all : prefix_len is_word_byte (b ∷ w) ≡ length (b ∷ w)
    all =
        let e = word_starts b start in
        let f = all_prefix w (and_right (is_word_start b) (list_all is_word_byte w) so) in
        rw (e, f) (omega arith)

    blank : is_blank b ≡ false
    blank = let e = start in grind (arith, nat_tests)

    read : token ((b ∷ w) ++ rest) ≡ Some (t.Word (b ∷ w), length (b ∷ w))
    read =
        let n : prefix_len is_word_byte ((b ∷ w) ++ rest) ≡ length (b ∷ w) = prefix_all (b ∷ w) rest all g.0 in
        let f : take (length (b ∷ w)) ((b ∷ w) ++ rest) ≡ b ∷ w = take_front (b ∷ w) rest in
        rw (start, n, f, free) refl

-- ---- numbers

-- digits that write a number
abbrev Digits : ℕ → Bytes → Type 0
Digits n ds = n < 2 ^ 64 → (prefix_len is_ascii_digit ds ≡ length ds) × (value ds ≡ n) × ((b : ℕ) × (w : Bytes) × (ds ≡ b ∷ w) × (is_ascii_digit b ≡ true))

digit_is : (d : ℕ) → d < 10 → is_ascii_digit (48 + d) ≡ true
digit_is d h = grind (arith, nat_tests)

value_more : (ds : Bytes) (b : ℕ) → value (ds ++ b ∷ []) ≡ min (min (value ds * 10) (2 ^ 64 - 1) + (b - 48)) (2 ^ 64 - 1)
value_more ds b = fold_more 0 ds
  where
    step : ℕ → ℕ → ℕ
    step n b = min (min (n * 10) (2 ^ 64 - 1) + (b - 48)) (2 ^ 64 - 1)

    fold_more : (n : ℕ) (ds : Bytes) → fold step n (ds ++ b ∷ []) ≡ step (fold step n ds) b
    fold_more n [] = refl
    fold_more n (x ∷ ds) = fold_more (step n x) ds

one_digit : (n : ℕ) → n < 10 → Digits n ((48 + n) ∷ [])
one_digit n h small =
    let e = digit_is n h in
    (rw e (omega arith), single, (48 + n, [], refl, e))
  where
    single : value ((48 + n) ∷ []) ≡ n
    single = omega (arith, h)

digits_prefix : (ds : Bytes) (b : ℕ) → prefix_len is_ascii_digit ds ≡ length ds → is_ascii_digit b ≡ true → prefix_len is_ascii_digit (ds ++ b ∷ []) ≡ length (ds ++ b ∷ [])
digits_prefix ds b all h =
    let r : eqb (length ds) (length ds) ≡ true = grind (arith, nat_tests) in
    let one : prefix_len is_ascii_digit (b ∷ []) ≡ 1 = rw h refl in
    rw (prefix_len-append is_ascii_digit ds (b ∷ []), all, r, one) (omega (arith, length-append ds (b ∷ [])))

more_digits : (n : ℕ) (ds : Bytes) → 10 ≤ n → Digits (n / 10) ds → Digits n (ds ++ (48 + n % 10) ∷ [])
more_digits n ds low ih small =
    let g = ih (omega (arith, small)) in
    let e = digit_is (n % 10) (omega arith) in
    (digits_prefix ds (48 + n % 10) g.0 e, whole g.1, (g.2.0, g.2.1 ++ (48 + n % 10) ∷ [], ap (λ z. z ++ (48 + n % 10) ∷ []) g.2.2, g.2.3))
  where
    whole : value ds ≡ n / 10 → value (ds ++ (48 + n % 10) ∷ []) ≡ n
    whole v = value_more ds (48 + n % 10) ∙ ap (λ m. min (min (m * 10) (2 ^ 64 - 1) + (48 + n % 10 - 48)) (2 ^ 64 - 1)) v ∙ (let r : min (min (n / 10 * 10) (2 ^ 64 - 1) + (48 + n % 10 - 48)) (2 ^ 64 - 1) ≡ n = omega (arith, small) in r)

digits_of : (n : ℕ) → n < 2 ^ 64 → Digits n (decimal n)
digits_of n h = decimal_by_steps Digits one_digit more_digits n h

number_prefix : (ds rest : Bytes) → prefix_len is_ascii_digit ds ≡ length ds → prefix_len is_ascii_digit rest ≡ 0 → prefix_len is_ascii_digit (ds ++ rest) ≡ length ds
number_prefix ds rest all cut = let r : eqb (length ds) (length ds) ≡ true = grind (arith, nat_tests) in rw (prefix_len-append is_ascii_digit ds rest, all, r, cut) (omega arith)

not_start : (b : ℕ) → is_ascii_digit b ≡ true → is_word_start b ≡ false
not_start b h = grind (arith, nat_tests)

not_blank : (b : ℕ) → is_ascii_digit b ≡ true → is_blank b ≡ false
not_blank b h = grind (arith, nat_tests)

token_number : (z : Bytes) → is_word_start (slice_index z 0) ≡ false → is_ascii_digit (slice_index z 0) ≡ true → token z ≡ Some (number z)
unfolding token
token_number z e f = rw (e, f) refl

number_read : (z : Bytes) (n i : ℕ) (ds : Bytes) → prefix_len is_ascii_digit z ≡ i → take i z ≡ ds → value ds ≡ n → number z ≡ (t.Number n, i)
unfolding number
number_read z n i ds e f g = rw (e, f, g) refl

number_cut : (n : ℕ) (rest : Bytes) → n < 2 ^ 64 → IsEnd rest → IsCut (t.Number n) (decimal n) rest
number_cut n rest small g =
    let d = digits_of n small small in
    (d.2.0, d.2.1, d.2.2, not_blank d.2.0 d.2.3, read d.2.0 d.2.1 d.2.2 d.2.3 d.0 d.1)
  where
    read : (b : ℕ) (w : Bytes) → decimal n ≡ b ∷ w → is_ascii_digit b ≡ true → prefix_len is_ascii_digit (decimal n) ≡ length (decimal n) → value (decimal n) ≡ n → token ((b ∷ w) ++ rest) ≡ Some (t.Number n, length (b ∷ w))
    read b w e digit all v =
        let m : prefix_len is_ascii_digit ((b ∷ w) ++ rest) ≡ length (b ∷ w) = number_prefix (b ∷ w) rest (subst (λ z. prefix_len is_ascii_digit z ≡ length z) e all) g.1 in
        let f : take (length (b ∷ w)) ((b ∷ w) ++ rest) ≡ b ∷ w = take_front (b ∷ w) rest in
        let u : value (b ∷ w) ≡ n = ap value (sym e) ∙ v in
        token_number ((b ∷ w) ++ rest) (not_start b digit) digit ∙ ap Some (number_read ((b ∷ w) ++ rest) n (length (b ∷ w)) (b ∷ w) m f u)

-- ---- texts

text_cut : (s rest : Bytes) → IsEnd rest → IsCut (t.Text s) (39 ∷ doubled s) rest
unfolding token
text_cut s rest g =
    let q = quoted_doubled s rest g.2 in
    let e : length (doubled s) + 1 ≡ length (39 ∷ doubled s) = omega arith in
    (39, doubled s, refl, refl, rw (q, e) refl)

-- ---- pieces

number_cuts : (z : _) (ts : Tokens) (rest : Bytes) → ArePlain (number_tokens z) → IsEnd rest → Cuts ts rest → Cuts (number_tokens z ++ ts) (signed_decimal z ++ rest)
number_cuts (pos n) ts rest plain g c = cut_on (t.Number n) ts (decimal n) rest (number_cut n rest plain.0 g) c
number_cuts (negsuc n) ts rest plain g c =
    cut_on (t.Fixed k.Minus) (t.Number (suc n) ∷ ts) (45 ∷ []) (decimal (suc n) ++ rest) (minus_cut (decimal (suc n) ++ rest))
    (cut_on (t.Number (suc n)) ts (decimal (suc n)) rest (number_cut (suc n) rest plain.1.0 g) c)

plain_front : (a b : Tokens) → ArePlain (a ++ b) → ArePlain a
plain_front [] b h = tt
plain_front (x ∷ a) b h = (h.0, plain_front a b h.1)

plain_back : (a b : Tokens) → ArePlain (a ++ b) → ArePlain b
plain_back [] b h = h
plain_back (x ∷ a) b h = plain_back a b h.1

symbol_cuts : (j : Fixed) (ps : Pieces) → Cuts (pieces_tokens ps) (spelled (not (is_opening j)) ps) → Cuts (t.Fixed j ∷ pieces_tokens ps) (symbol_text j ++ spelled (not (is_opening j)) ps)
symbol_cuts j ps c = at (is_opening j) refl c
  where
    at : (b : Bool) → is_opening j ≡ b → Cuts (pieces_tokens ps) (spelled (not b) ps) → Cuts (t.Fixed j ∷ pieces_tokens ps) (symbol_text j ++ spelled (not b) ps)
    at true e c = cut_on (t.Fixed j) (pieces_tokens ps) (symbol_text j) (spelled false ps) (opening_cut j (spelled false ps) e) c
    at false e c = cut_on (t.Fixed j) (pieces_tokens ps) (symbol_text j) (spelled true ps) (fixed_cut j (spelled true ps) (end_spelled ps)) c

piece_cuts : (p : Piece) (ps : Pieces) → ArePlain (piece_tokens p) → Cuts (pieces_tokens ps) (spelled (leaves_space p) ps) → Cuts (piece_tokens p ++ pieces_tokens ps) (piece_text p ++ spelled (leaves_space p) ps)
unfolding symbol_text token sign
piece_cuts (symbol j) ps h c = symbol_cuts j ps c
piece_cuts (call j) ps h c =
    let rest = spelled false ps in
    subst (λ z. Cuts (t.Fixed j ∷ t.Fixed k.Open ∷ pieces_tokens ps) z) (sym (append_assoc (symbol_text j) (40 ∷ []) rest))
    (cut_on (t.Fixed j) (t.Fixed k.Open ∷ pieces_tokens ps) (symbol_text j) (40 ∷ rest) (fixed_cut j (40 ∷ rest) (end_open rest)) (cut_on (t.Fixed k.Open) (pieces_tokens ps) (40 ∷ []) rest (40, [], refl, refl, refl) c))
piece_cuts (name s) ps h c = cut_on (t.Word s) (pieces_tokens ps) s (spelled true ps) (name_cut s (spelled true ps) h.0 (end_spelled ps)) c
piece_cuts (number_piece z) ps h c = number_cuts z (pieces_tokens ps) (spelled true ps) h (end_spelled ps) c
piece_cuts (text s) ps h c = cut_on (t.Text s) (pieces_tokens ps) (39 ∷ doubled s) (spelled true ps) (text_cut s (spelled true ps) (end_spelled ps)) c

space_cuts : (b : Bool) (ts : Tokens) (z : Bytes) → Cuts ts z → Cuts ts (space b ++ z)
space_cuts true ts z c = cut_blank 32 ts z refl c
space_cuts false ts z c = c

pub pieces_cuts : (ps : Pieces) (due : Bool) → ArePlain (pieces_tokens ps) → Cuts (pieces_tokens ps) (spelled due ps)
pieces_cuts [] due h = cut_end
pieces_cuts (p ∷ ps) due h =
    let c = pieces_cuts ps (leaves_space p) (plain_back (piece_tokens p) (pieces_tokens ps) h) in
    let d = space_cuts (due && takes_space p) (piece_tokens p ++ pieces_tokens ps) (piece_text p ++ spelled (leaves_space p) ps) (piece_cuts p ps (plain_front (piece_tokens p) (pieces_tokens ps) h) c) in
    subst (λ z. Cuts (piece_tokens p ++ pieces_tokens ps) z) (sym (append_assoc (space (due && takes_space p)) (piece_text p) (spelled (leaves_space p) ps))) d

-- the tokens of a spelling
pub spelled_lexed : (ps : Pieces) → ArePlain (pieces_tokens ps) → (tokens_of (lexed (spelled false ps)).lexemes ≡ pieces_tokens ps) × ((lexed (spelled false ps)).fault ≡ None)
unfolding lexed
spelled_lexed ps h = cuts_lexed (pieces_tokens ps) (spelled false ps) (pieces_cuts ps false h) 0
