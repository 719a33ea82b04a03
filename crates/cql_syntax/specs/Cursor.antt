-- What a cursor over tokens sees, and how it takes them one by one.
use Rattle.std.specs.Prelude.{◌≡◌, ◌≢◌, Bool, false, if◌then◌else◌, [], ◌∷◌, drop, Result, Ok, Err, Option, Some, None}
use Rattle.cql_syntax.specs.declared.token.Fixed.{Fixed}
use Rattle.cql_syntax.specs.declared.token.Token.{Token}
use Rattle.cql_syntax.specs.declared.cursor.Stop.{Stop}
use Rattle.cql_syntax.specs.declared.cursor.Stop.TheVariants.{Memory}
use Rattle.cql_syntax.specs.Tokens.{Tokens, is, sign}

-- whether the next token passes the test
abbrev pub next_is : (Token → Bool) → Tokens → Bool
next_is test [] = false
next_is test (x ∷ ts) = test x

abbrev pub sees : Fixed → Tokens → Bool
sees k = next_is (is k)

abbrev pub next : Tokens → Tokens
next = drop 1

-- what was read and the tokens after it, or the tokens from the one on that can't come there
abbrev pub Outcome : Type 0 → Type 0
Outcome A = Result (A × Tokens) Tokens

abbrev pub Parser : Type 0 → Type 0
Parser A = Tokens → Outcome A

unfoldable pub after : Fixed → Tokens → Tokens
after k ts = if sees k ts then next ts else ts

-- the word or sign, where it comes next, and whether it did
abbrev pub eat : Fixed → Parser Bool
eat k = λ i. Ok (sees k i, after k i)

abbrev pub linked : {A O : Type 0} → Option O → Outcome A → (O → Outcome A) → Outcome A
linked None done go = done
linked (Some op) done go = go op

-- what f says of the token that comes next
abbrev pub at_head : {O : Type 0} → (Token → Option O) → Tokens → Option O
at_head f [] = None
at_head f (x ∷ ts) = f x

-- one token that f knows
unfoldable pub token_by : {A : Type 0} → (Token → Option A) → Parser A
token_by f ts = linked (at_head f ts) (Err ts) (λ x. Ok (x, next ts))

abbrev pub expect : Fixed → Parser (Unit {0})
expect k = token_by (sign k)

-- What a function that reads ensures: the outcome, unless memory fails. After a refusal the cursor stands at the token that was refused.
abbrev pub Reads : {A : Type 0} → Outcome A → Result A Stop → Tokens → Type 0
Reads outcome (Ok a) new = outcome ≡ Ok (a, new)
Reads outcome (Err e) new = e ≢ Memory → outcome ≡ Err new
