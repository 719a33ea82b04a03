-- Tokens of a text, with the bytes at which they begin.
use Rattle.std.specs.Prelude.{◌≡◌, ℕ, zero, suc, ◌+◌, ◌-◌, ◌*◌, ◌^◌, min, fold, Bool, true, false, ◌&&◌, ◌||◌, if◌then◌else◌, ◌==◌, List, [], ◌∷◌, ◌++◌, take, drop, slice_index, Option, Some, None, is_some, nat_lt, codes}
use Rattle.std.specs.Char.{is_ascii_digit}
use Rattle.std.specs.List.{prefix_len}
use Rattle.std.specs.Str.{str_eq_ignore_ascii_case}
use Rattle.cql_value.specs.Name.{is_word_start, is_word_byte, is_reserved}
use Rattle.cql_syntax.specs.declared.token.Fixed.{Fixed}
use Rattle.cql_syntax.specs.declared.token.Fixed.TheVariants as k
use Rattle.cql_syntax.specs.declared.token.Token.{Token}
use Rattle.cql_syntax.specs.declared.token.Token.TheVariants as t
use Rattle.cql_syntax.specs.declared.token.Lexeme.{Lexeme}
use Rattle.cql_syntax.specs.declared.lex.Scanned.{Scanned}

abbrev pub Bytes : Type 0
Bytes = List ℕ

-- space, tab, LF and CR
abbrev pub is_blank : ℕ → Bool
is_blank b = b == 32 || b == 9 || b == 10 || b == 13

-- a token and its length in bytes
abbrev pub Found : Type 0
Found = Token × ℕ

-- ---- words

abbrev pub Table : Type 0
Table = List (Bytes × Fixed)

-- the reserved words
abbrev pub reserved_words : Table
reserved_words =
    (codes "all", k.All) ∷ (codes "and", k.And) ∷ (codes "as", k.As) ∷ (codes "by", k.By) ∷ (codes "count", k.Count)
    ∷ (codes "distinct", k.Distinct) ∷ (codes "dstream", k.Dstream) ∷ (codes "except", k.Except) ∷ (codes "from", k.From)
    ∷ (codes "group", k.Group) ∷ (codes "istream", k.Istream) ∷ (codes "max", k.Max) ∷ (codes "min", k.Min) ∷ (codes "not", k.Not)
    ∷ (codes "now", k.Now) ∷ (codes "or", k.Or) ∷ (codes "partition", k.Partition) ∷ (codes "range", k.Range)
    ∷ (codes "rows", k.Rows) ∷ (codes "rstream", k.Rstream) ∷ (codes "select", k.Select) ∷ (codes "slide", k.Slide)
    ∷ (codes "sum", k.Sum) ∷ (codes "unbounded", k.Unbounded) ∷ (codes "union", k.Union) ∷ (codes "where", k.Where) ∷ []

-- what stands beside the word in the table, in any case of its letters
abbrev pub lookup : Table → Bytes → Option Fixed
lookup [] word = None
lookup (r ∷ rs) word = if str_eq_ignore_ascii_case word r.0 then Some r.1 else lookup rs word

unfoldable pub reserved : Bytes → Option Fixed
reserved = lookup reserved_words

-- a word is reserved here exactly where it is reserved for names
abbrev pub ReservedLaw : Type 0
ReservedLaw = (word : Bytes) → is_some (reserved word) ≡ is_reserved word

abbrev pub word_or_reserved : Bytes → Option Fixed → Token
word_or_reserved w (Some j) = t.Fixed j
word_or_reserved w None = t.Word w

unfoldable pub word : Bytes → Found
word z = let n = prefix_len is_word_byte z in (word_or_reserved (take n z) (reserved (take n z)), n)

-- ---- numbers

-- what the digits write, or the largest number of 64 bits
abbrev pub value : Bytes → ℕ
value = fold (λ n b. min (min (n * 10) (2 ^ 64 - 1) + (b - 48)) (2 ^ 64 - 1)) 0

unfoldable pub number : Bytes → Found
number z = let n = prefix_len is_ascii_digit z in (t.Number (value (take n z)), n)

-- ---- texts

abbrev pub longer : Bytes → Option (Bytes × ℕ) → Option (Bytes × ℕ)
longer cs None = None
longer cs (Some p) = Some (cs ++ p.0, p.1 + 1)

-- After the opening quote: what is quoted, and the length with the closing quote. `was_quote` says that a quote was just read, which closes where none follows.
abbrev pub quoted : Bool → Bytes → Option (Bytes × ℕ)
quoted false [] = None
quoted true [] = Some ([], 0)
quoted false (b ∷ z) = if b == 39 then longer [] (quoted true z) else longer (b ∷ []) (quoted false z)
quoted true (b ∷ z) = if b == 39 then longer (39 ∷ []) (quoted false z) else Some ([], 0)

abbrev pub text_of : Option (Bytes × ℕ) → Option Found
text_of None = None
text_of (Some p) = Some (t.Text p.0, p.1 + 1)

-- ---- signs

-- the longest sign that fits
unfoldable pub sign : ℕ → ℕ → Option (Fixed × ℕ)
sign b next =
    if b == 40 then Some (k.Open, 1) else if b == 41 then Some (k.Close, 1)
    else if b == 91 then Some (k.OpenSquare, 1) else if b == 93 then Some (k.CloseSquare, 1)
    else if b == 44 then Some (k.Comma, 1) else if b == 46 then Some (k.Dot, 1) else if b == 59 then Some (k.Semicolon, 1)
    else if b == 42 then Some (k.Star, 1) else if b == 43 then Some (k.Plus, 1) else if b == 45 then Some (k.Minus, 1)
    else if b == 61 then Some (k.Equal, 1)
    else if b == 60 then (if next == 61 then Some (k.LessOrEqual, 2) else if next == 62 then Some (k.Unequal, 2) else Some (k.Less, 1))
    else if b == 62 then (if next == 61 then Some (k.GreaterOrEqual, 2) else Some (k.Greater, 1))
    else if b == 33 && next == 61 then Some (k.Unequal, 2) else None

abbrev pub sign_of : Option (Fixed × ℕ) → Option Found
sign_of None = None
sign_of (Some p) = Some (t.Fixed p.0, p.1)

-- ---- all

-- the token that begins the text, which begins with no blank
unfoldable pub token : Bytes → Option Found
token z =
    let b = slice_index z 0 in
    if is_word_start b then Some (word z) else if is_ascii_digit b then Some (number z) else if b == 39 then text_of (quoted false (drop 1 z)) else sign_of (sign b (slice_index z 1))

abbrev pub after_lexeme : Lexeme → Scanned → Scanned
after_lexeme l s = record { lexemes = l ∷ s.lexemes; fault = s.fault }

abbrev pub step : ℕ → Option Found → (ℕ → Scanned) → Scanned
step at None go = record { lexemes = []; fault = Some at }
step at (Some p) go = after_lexeme (record { at = at; token = p.0 }) (go p.1)

-- The tokens from the byte `at` on, and the byte where none begins, if there is one. The first number counts the bytes that are left of a token.
unfoldable pub scan : ℕ → ℕ → Bytes → Scanned
scan left at [] = record { lexemes = []; fault = None }
scan (suc left) at (b ∷ z) = scan left (at + 1) z
scan zero at (b ∷ z) = if is_blank b then scan zero (at + 1) z else step at (token (b ∷ z)) (λ n. scan (n - 1) (at + 1) z)

unfoldable pub lexed : Bytes → Scanned
lexed = scan 0 0

-- the lexemes that begin before the byte, and the next one; the fault behind them, where that one ends them
abbrev pub cut : ℕ → List Lexeme → Option ℕ → Scanned
cut most [] fault = record { lexemes = []; fault = fault }
cut most (l ∷ ls) fault = if nat_lt l.at most then after_lexeme l (cut most ls fault) else record { lexemes = l ∷ []; fault = None }

abbrev pub until : ℕ → Scanned → Scanned
until most s = cut most s.lexemes s.fault

-- of all tokens of the text those that begin before the byte, and the next one
unfoldable pub lexed_until : ℕ → Bytes → Scanned
lexed_until most text = until most (lexed text)

-- ---- for the loops

abbrev pub with_front : List Lexeme → Scanned → Scanned
with_front front s = record { lexemes = front ++ s.lexemes; fault = s.fault }

-- with this text and so many bytes in front
abbrev pub behind : Bytes → ℕ → Option (Bytes × ℕ) → Option (Bytes × ℕ)
behind front n None = None
behind front n (Some p) = Some (front ++ p.0, n + p.1)
