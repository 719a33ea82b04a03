-- What is left of the tokens at the end.
use Rattle.std.proofs.Common.{◌≡◌, ℕ, Bool, true, false, ◌&&◌, ◌==◌, [], ◌∷◌, length, Option, Some, None, is_none, Ok, Err, refl, arith}
use Rattle.std.proofs.lemmas.Bool.Decides.{nat_tests}
use Rattle.cql_syntax.specs.declared.syntax.Query.{Query}
use Rattle.cql_syntax.specs.declared.token.Token.{Token}
use Rattle.cql_syntax.specs.Tokens.{Tokens}
use Rattle.cql_text.specs.Read.{ended}

pub ended_more : (f : Option ℕ) (q : Query) (rest : Tokens) → (length rest == 0 && is_none f) ≡ false → ended f q rest ≡ Err (length rest)
ended_more None q [] h = cc
ended_more (Some at) q [] h = refl
ended_more None q (u ∷ r) h = refl
ended_more (Some at) q (u ∷ r) h = refl

no_length : (u : Token) (r : Tokens) (b : Bool) → (length (u ∷ r) == 0 && b) ≡ true → ⊥
no_length u r b h = grind (arith, nat_tests)

pub ended_all : (f : Option ℕ) (q : Query) (rest : Tokens) → (length rest == 0 && is_none f) ≡ true → ended f q rest ≡ Ok q
ended_all None q [] h = refl
ended_all (Some at) q [] h = cc
ended_all None q (u ∷ r) h = absurd (no_length u r true h)
ended_all (Some at) q (u ∷ r) h = absurd (no_length u r false h)

pub ruleset attempts = (ended_more, ended_all)
