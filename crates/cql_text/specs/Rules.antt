-- The words in which the rules of the grammar are written.
use Rattle.std.specs.Prelude.{◌≡◌, ◌∷◌, Option, Some, None, Bool, true, false, ◌⊎◌}
use Rattle.cql_syntax.specs.declared.token.Fixed.{Fixed}
use Rattle.cql_syntax.specs.declared.token.Token.{Token}
use Rattle.cql_syntax.specs.declared.token.Token.TheVariants as t
use Rattle.cql_syntax.specs.Tokens.{Tokens}

-- A rule of the grammar. `R ts x rest`: the tokens ts begin with x, and rest comes after it.
abbrev pub Rule : Type 0 → Type 1
Rule A = Tokens → A → Tokens → Type 0

-- one rule after another
infixl 10 ◌>>=◌
abbrev pub ◌>>=◌ : {A B : Type 0} → Rule A → (A → Rule B) → Rule B
◌>>=◌ {A} {B} R T ts y rest = (x : A) × (us : Tokens) × R ts x us × T x us y rest

infixl 10 ◌>>◌
abbrev pub ◌>>◌ : {A B : Type 0} → Rule A → Rule B → Rule B
R >> T = R >>= (λ _. T)

abbrev pub pure : {A : Type 0} → A → Rule A
pure x ts y rest = (x ≡ y) × (ts ≡ rest)

-- this word or sign
abbrev pub word : Fixed → Rule (Unit {0})
word j ts x rest = ts ≡ t.Fixed j ∷ rest

-- one token that means x
abbrev pub one : {A : Type 0} → (Token → Option A) → Rule A
one meaning ts x rest = (u : Token) × (ts ≡ u ∷ rest) × (meaning u ≡ Some x)

-- [ R ]
abbrev pub optional : {A : Type 0} → Rule A → Rule (Option A)
optional R ts None rest = ts ≡ rest
optional R ts (Some x) rest = R ts x rest

-- [ word ]
abbrev pub may : Fixed → Rule Bool
may j ts true rest = ts ≡ t.Fixed j ∷ rest
may j ts false rest = ts ≡ rest

-- R | T
abbrev pub either : {A : Type 0} → Rule A → Rule A → Rule A
either R T ts x rest = R ts x rest ⊎ T ts x rest

-- { operator item }: from the tokens and what stands left of them to the whole and the tokens after it
module _ {A O : Type 0} (Item : Tokens → A → Tokens → Type 0) (operator : Token → Option O) (join : O → A → A → A) where
  pub data GoesOn : Tokens → A → A → Tokens → Type 0 where
    ends : (ts : Tokens) (x : A) → GoesOn ts x x ts
    goes : (x : Token) (op : O) (ts us rest : Tokens) (left right whole : A) → operator x ≡ Some op → Item ts right us → GoesOn us (join op left right) whole rest
        → GoesOn (x ∷ ts) left whole rest

-- item { operator item }, joined from the left
abbrev pub chain : {A O : Type 0} → Rule A → (Token → Option O) → (O → A → A → A) → Rule A
chain {A} Item operator join ts whole rest = (first : A) × (us : Tokens) × Item ts first us × GoesOn Item operator join us first whole rest
