-- A text as a query, or the byte at which it is refused.
use Rattle.std.specs.Prelude.{◌≡◌, ◌≤◌, ◌<◌, ℕ, ◌+◌, ◌-◌, min, nat_lt, Bool, true, false, ◌&&◌, ◌==◌, if◌then◌else◌, List, [], ◌∷◌, ◌++◌, take, length, slice_get, slice_set, Option, Some, None, Result, Ok, Err, ◌⊎◌}
use Rattle.cql_syntax.specs.declared.token.Token.{Token}
use Rattle.cql_syntax.specs.declared.token.Token.TheVariants as t
use Rattle.cql_syntax.specs.declared.token.Lexeme.{Lexeme}
use Rattle.cql_syntax.specs.declared.lex.Scanned.{Scanned}
use Rattle.cql_syntax.specs.declared.syntax.Query.{Query}
use Rattle.cql_text.specs.declared.reader.ReadError.{ReadError}
use Rattle.cql_text.specs.declared.reader.ReadError.TheVariants.{BadQuery, NoMemory}
use Rattle.cql_syntax.specs.Tokens.{Tokens, tokens_of}
use Rattle.cql_syntax.specs.Lex.{Bytes, lexed, lexed_until}
use Rattle.cql_text.specs.Grammar.{Spells, CanBegin}
use Rattle.cql_syntax.specs.Cursor.{Outcome}
use Rattle.cql_text.specs.Readers.{query}

abbrev pub most_bytes : ℕ
most_bytes = 4096

-- some tokens are the query
abbrev pub IsSyntax : Query → Type 0
IsSyntax q = (ts : Tokens) × Spells ts q

-- the text is this query
abbrev pub Is : Bytes → Query → Type 0
Is text q = (length text ≤ most_bytes) × ((lexed text).fault ≡ None) × Spells (tokens_of (lexed text).lexemes) q

-- ---- the offsets at which a text is refused

-- the text has too many bytes
abbrev pub IsTooMany : Bytes → ℕ → Type 0
IsTooMany text at = (most_bytes < length text) × (at ≡ most_bytes)

-- no token begins here
abbrev pub IsNoToken : Bytes → ℕ → Type 0
IsNoToken text at = (lexed text).fault ≡ Some at

-- a query can begin with the tokens before this one, and none with this one too
abbrev pub IsStuck : List Lexeme → ℕ → Type 0
IsStuck lexemes at =
    (front : List Lexeme) × (l : Lexeme) × (back : List Lexeme) × (lexemes ≡ front ++ l ∷ back)
    × CanBegin (tokens_of front) × (CanBegin (tokens_of (front ++ l ∷ [])) → ⊥) × (at ≡ l.at)

-- The number is out of its range with what follows, its unit: a query can begin with the tokens up to the number, none with what follows it too, and one can where the number is 1.
abbrev pub IsTooLong : List Lexeme → ℕ → Type 0
IsTooLong lexemes at =
    (front : List Lexeme) × (n : ℕ) × (l : Lexeme) × (u : Lexeme) × (back : List Lexeme) × (lexemes ≡ front ++ l ∷ u ∷ back) × (l.token ≡ t.Number n)
    × CanBegin (tokens_of front ++ t.Number n ∷ []) × (CanBegin (tokens_of front ++ t.Number n ∷ u.token ∷ []) → ⊥)
    × CanBegin (tokens_of front ++ t.Number 1 ∷ u.token ∷ []) × (at ≡ l.at)

-- the text ends, and a query can go on but not end there
abbrev pub IsCutShort : Bytes → ℕ → Type 0
IsCutShort text at =
    ((lexed text).fault ≡ None) × CanBegin (tokens_of (lexed text).lexemes) × ((q : Query) → Spells (tokens_of (lexed text).lexemes) q → ⊥) × (at ≡ length text)

abbrev pub HasFaultAt : Bytes → ℕ → Type 0
HasFaultAt text at = IsTooMany text at ⊎ (IsNoToken text at ⊎ (IsStuck (lexed text).lexemes at ⊎ (IsTooLong (lexed text).lexemes at ⊎ IsCutShort text at)))

-- the text is refused at the least offset that has a fault
abbrev pub IsRefusedAt : Bytes → ℕ → Type 0
IsRefusedAt text at = HasFaultAt text at × ((other : ℕ) → HasFaultAt text other → at ≤ other)

-- ---- the reader

-- where the text's tokens end: at the byte where none begins, or at the end of the text
abbrev pub end_of : Option ℕ → ℕ → ℕ
end_of (Some at) len = at
end_of None len = len

abbrev pub byte_of : Option Lexeme → ℕ → ℕ
byte_of (Some l) end = l.at
byte_of None end = end

-- the byte at which the last `left` tokens begin
abbrev pub offset_at : Scanned → ℕ → ℕ → ℕ
offset_at s len left = byte_of (slice_get s.lexemes (length s.lexemes - left)) (end_of s.fault len)

abbrev pub number_at : ℕ → Token → Option ℕ
number_at at (t.Number n) = Some at
number_at at (t.Fixed j) = None
number_at at (t.Word s) = None
number_at at (t.Text s) = None

abbrev pub number_in : Option Lexeme → Option ℕ
number_in None = None
number_in (Some l) = number_at l.at l.token

-- the byte of the number before the last `left` tokens, where a number and then further tokens stand there
unfoldable pub number_before : List Lexeme → ℕ → Option ℕ
number_before ls left = if nat_lt 0 left && nat_lt left (length ls) then number_in (slice_get ls (length ls - left - 1)) else None

abbrev pub left_of : Outcome Query → Tokens
left_of (Ok p) = p.1
left_of (Err rest) = rest

-- the reader comes to the end of the tokens
unfoldable pub goes_on : Tokens → Bool
goes_on ts = length (left_of (query ts)) == 0

-- the tokens up to the first of the last `left`, with 1 as the one before that
unfoldable pub with_one : List Lexeme → ℕ → ℕ → List Lexeme
with_one ls at left = take (length ls - left + 1) (slice_set ls (length ls - left - 1) (record { at = at; token = t.Number 1 }))

abbrev pub blamed : Scanned → ℕ → ℕ → Option ℕ → ℕ
blamed s len left None = offset_at s len left
blamed s len left (Some at) = if goes_on (tokens_of (with_one s.lexemes at left)) then at else offset_at s len left

-- the byte at which a reader that left so many tokens refuses the text
unfoldable pub refusal : Scanned → ℕ → ℕ → ℕ
refusal s len left = blamed s len left (number_before s.lexemes left)

-- the query, or how many tokens are left, where the text's tokens end or none begins
abbrev pub ended : Option ℕ → Query → Tokens → Result Query ℕ
ended None q [] = Ok q
ended (Some at) q [] = Err 0
ended fault q (x ∷ rest) = Err (length (x ∷ rest))

abbrev pub attempted : Option ℕ → Outcome Query → Result Query ℕ
attempted fault (Ok p) = ended fault p.0 p.1
attempted fault (Err rest) = Err (length rest)

unfoldable pub attempt : Scanned → Result Query ℕ
attempt s = attempted s.fault (query (tokens_of s.lexemes))

abbrev pub finished : Scanned → ℕ → Result Query ℕ → Result Query ℕ
finished s len (Ok q) = Ok q
finished s len (Err left) = Err (refusal s len left)

-- with the length asked too
abbrev pub capped : Bool → Result Query ℕ → Result Query ℕ
capped true (Ok q) = Err most_bytes
capped true (Err at) = Err (min at most_bytes)
capped false outcome = outcome

-- of the tokens that begin within the bytes that a text may have, and one more, where the unit of a number may stand
unfoldable pub read_tokens : Bytes → Result Query ℕ
read_tokens text = finished (lexed_until most_bytes text) (length text) (attempt (lexed_until most_bytes text))

unfoldable pub read_of : Bytes → Result Query ℕ
read_of text = capped (nat_lt most_bytes (length text)) (read_tokens text)

abbrev pub Answers : Result Query ℕ → Result Query ReadError → Type 0
Answers outcome (Ok q) = outcome ≡ Ok q
Answers outcome (Err NoMemory) = Unit {0}
Answers outcome (Err (BadQuery at)) = outcome ≡ Err at

-- the query is read, unless memory runs out
abbrev pub Reads : Query → Result Query ReadError → Type 0
Reads q (Ok s) = s ≡ q
Reads q (Err NoMemory) = Unit {0}
Reads q (Err (BadQuery at)) = ⊥

-- Of every text: the reader gives the query that it is, and no other, and where there is none the least of the offsets at which it is refused.
abbrev pub ReadLaw : Type 0
ReadLaw = (text : Bytes) → ((q : Query) → read_of text ≡ Ok q → Is text q) × ((q : Query) → Is text q → read_of text ≡ Ok q) × ((at : ℕ) → read_of text ≡ Err at → IsRefusedAt text at)
