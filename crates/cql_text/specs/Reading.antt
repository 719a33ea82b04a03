-- What the reader of tokens is made of.
use Rattle.std.specs.Prelude.{length, ℕ, zero, suc, Bool, if◌then◌else◌, List, [], ◌∷◌, Ok, Err, Option, Some, None}
use Rattle.cql_syntax.specs.declared.token.Fixed.TheVariants as k
use Rattle.cql_syntax.specs.declared.token.Token.{Token}
use Rattle.cql_syntax.specs.Tokens.{sign, joined}
use Rattle.cql_syntax.specs.Cursor.{next_is, next, Outcome, Parser, linked, at_head}

abbrev pub and_then : {A B : Type 0} → Outcome A → (A → Parser B) → Outcome B
and_then (Ok p) f = f p.0 p.1
and_then (Err e) f = Err e

infixl 10 ◌>>=◌
abbrev pub ◌>>=◌ : {A B : Type 0} → Parser A → (A → Parser B) → Parser B
p >>= f = λ i. and_then (p i) f

infixl 10 ◌>>◌
abbrev pub ◌>>◌ : {A B : Type 0} → Parser A → Parser B → Parser B
p >> q = p >>= (λ _. q)

abbrev pub pure : {A : Type 0} → A → Parser A
pure a = λ i. Ok (a, i)

-- what p reads, where the next token passes the test
unfoldable pub optional : {A : Type 0} → (Token → Bool) → Parser A → Parser (Option A)
optional test p ts = if next_is test ts then and_then (p ts) (λ x. pure (Some x)) else Ok (None, ts)

-- p where the next token passes the test, otherwise q
unfoldable pub choice : {A : Type 0} → (Token → Bool) → Parser A → Parser A → Parser A
choice test p q ts = if next_is test ts then p ts else q ts

-- after an item: further ones, each behind an operator. The number bounds the turns, and each turn takes a token.
module _ {A O : Type 0} (item : Parser A) (operator : Token → Option O) (join : O → A → A → A) where
  unfoldable pub chain : ℕ → A → Parser A
  chain zero left ts = Ok (left, ts)
  chain (suc n) left ts =
      linked (at_head operator ts) (Ok (left, ts)) (λ op. and_then (item (next ts)) (λ right. chain n (join op left right)))

-- item { operator item }
unfoldable pub chain_of : {A O : Type 0} → Parser A → (Token → Option O) → (O → A → A → A) → Parser A
chain_of item operator join ts = and_then (item ts) (λ first us. chain item operator join (length us) first us)

abbrev pub single : {A : Type 0} → Parser A → Parser (List A)
single p = p >>= (λ x. pure (x ∷ []))

-- item { "," item }
unfoldable pub list_of : {A : Type 0} → Parser A → Parser (List A)
list_of item = chain_of (single item) (sign k.Comma) joined
