-- What is written plainly.
use Rattle.std.specs.Prelude.{◌≡◌, ℕ, List, ◌∷◌, Bool, true, false, ◌||◌, ◌==◌}
use Rattle.json.specs.Token.{Token}
use Rattle.json.specs.Lex.{Place, fresh, after_value, may_begin, between, lex, punctuate}

-- a comma, or what closes a list or an object
abbrev pub is_mark : ℕ → Bool
is_mark x = (x == 44) || ((x == 93) || (x == 125))

-- behind a value, or where none stands before
abbrev pub place_of : Bool → Place
place_of true = after_value
place_of false = fresh

abbrev pub tokens_from : Bool → List ℕ → List Token
tokens_from follows text = punctuate (place_of follows) (lex between text)

-- the comma that follows a value was passed, so a value or a key may begin
abbrev pub Passes : Bool → List ℕ → List ℕ → Type 0
Passes follows old new = (p : Place) × (may_begin p ≡ true) × (tokens_from follows old ≡ punctuate p (lex between new))

-- wherever a value may begin, the token comes first, and a value ends with it
abbrev pub IsScalar : List ℕ → Token → List ℕ → Type 0
IsScalar old t new = (p : Place) → may_begin p ≡ true → punctuate p (lex between old) ≡ t ∷ tokens_from true new
