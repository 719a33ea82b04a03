-- What ties a reader of tokens to the rule that it decides.
use Rattle.std.proofs.Common.{◌≡◌, ◌<◌, ◌^◌, true, [], ◌∷◌, ◌++◌, Ok, Err}
use Rattle.cql_value.specs.Name.{is_name}
use Rattle.cql_syntax.specs.declared.token.Token.{Token}
use Rattle.cql_syntax.specs.declared.token.Token.TheVariants as t
use Rattle.cql_syntax.specs.Tokens.{Tokens}
use Rattle.cql_text.specs.Rules.{Rule}
use Rattle.cql_syntax.specs.Cursor.{Outcome, Parser}

abbrev pub rest_of : {A : Type 0} → Outcome A → Tokens
rest_of (Ok p) = p.1
rest_of (Err rest) = rest

abbrev pub with_rest : {A : Type 0} → Outcome A → Tokens → Outcome A
with_rest (Ok p) rest = Ok (p.0, rest)
with_rest (Err _) rest = Err rest

-- what is read is so
abbrev pub IsSound : {A : Type 0} → Parser A → Rule A → Type 0
IsSound {A} p R = (ts rest : Tokens) (x : A) → p ts ≡ Ok (x, rest) → R ts x rest

-- what is so is read, where it may stop
abbrev pub IsComplete : {A : Type 0} → Parser A → Rule A → (Tokens → Type 0) → Type 0
IsComplete {A} p R Stops = (ts rest : Tokens) (x : A) → R ts x rest → Stops rest → p ts ≡ Ok (x, rest)

-- it doesn't look beyond the token at which it stops
abbrev pub LooksAt : {A : Type 0} → Parser A → Tokens → Token → Tokens → Type 0
LooksAt p ts t r = (front : Tokens) × (ts ≡ front ++ t ∷ r) × ((s : Tokens) → p (front ++ t ∷ s) ≡ with_rest (p ts) (t ∷ s))

abbrev pub Looks : {A : Type 0} → Parser A → Type 0
Looks p = (ts : Tokens) (t : Token) (r : Tokens) → rest_of (p ts) ≡ t ∷ r → LooksAt p ts t r

-- what stands before the token of a refusal can go on to something that is so
abbrev pub GoesOnSo : {A : Type 0} → Rule A → Tokens → Tokens → Type 0
GoesOnSo {A} R ts rest = (front : Tokens) × (more : Tokens) × (x : A) × (ts ≡ front ++ rest) × ((after : Tokens) → R (front ++ (more ++ after)) x after)

abbrev pub IsViable : {A : Type 0} → Parser A → Rule A → Type 0
IsViable p R = (ts rest : Tokens) → p ts ≡ Err rest → GoesOnSo R ts rest

-- a token that a text has: a word is a name, a number fits 64 bits
abbrev pub IsPlain : Token → Type 0
IsPlain (t.Word s) = is_name s ≡ true
IsPlain (t.Number n) = n < 2 ^ 64
IsPlain (t.Fixed j) = Unit {0}
IsPlain (t.Text s) = Unit {0}

abbrev pub ArePlain : Tokens → Type 0
ArePlain [] = Unit {0}
ArePlain (x ∷ ts) = IsPlain x × ArePlain ts

-- what is so stays so, whatever comes after it, and is of tokens that a text has
abbrev pub StandsBy : {A : Type 0} → Rule A → Tokens → A → Tokens → Type 0
StandsBy R ts x rest = (front : Tokens) × (ts ≡ front ++ rest) × ((after : Tokens) → R (front ++ after) x after) × ArePlain front

abbrev pub IsFree : {A : Type 0} → Rule A → Type 0
IsFree {A} R = (ts rest : Tokens) (x : A) → R ts x rest → StandsBy R ts x rest

pub plain-append : (a b : Tokens) → ArePlain a → ArePlain b → ArePlain (a ++ b)
plain-append [] b h k = k
plain-append (x ∷ ts) b h k = (h.0, plain-append ts b h.1 k)
