-- Tokens and what is asked of them.
use Rattle.std.specs.Prelude.{Bool, true, false, List, ◌++◌, map, Option, Some, None, if◌then◌else◌, is_some}
use denote.Enum.Bare.{sameb}
use Rattle.cql_syntax.specs.contracts.token.Fixed.{the_type}
use Rattle.cql_syntax.specs.declared.token.Fixed.{Fixed}
use Rattle.cql_syntax.specs.declared.token.Token.{Token}
use Rattle.cql_syntax.specs.declared.token.Token.TheVariants as t
use Rattle.cql_syntax.specs.declared.token.Lexeme.{Lexeme}

abbrev pub Tokens : Type 0
Tokens = List Token

-- the tokens without their offsets
abbrev pub tokens_of : List Lexeme → Tokens
tokens_of = map (λ l. l.token)

-- `==` on words and signs
unfoldable pub same : Fixed → Fixed → Bool
same = sameb the_type

-- the token is this word or sign
abbrev pub is : Fixed → Token → Bool
is k (t.Fixed j) = same j k
is k (t.Word s) = false
is k (t.Number n) = false
is k (t.Text s) = false

-- a word that isn't reserved, of any length
abbrev pub is_word : Token → Bool
is_word (t.Word s) = true
is_word (t.Fixed j) = false
is_word (t.Number n) = false
is_word (t.Text s) = false

-- the token means something
abbrev pub knows : {O : Type 0} → (Token → Option O) → Token → Bool
knows meaning x = is_some (meaning x)

-- the meaning of one word or sign, and of no other token
unfoldable pub sign : Fixed → Token → Option (Unit {0})
sign k x = if is k x then Some tt else None

-- two lists with a comma between them
abbrev pub joined : {A : Type 0} → Unit {0} → List A → List A → List A
joined _ xs ys = xs ++ ys
