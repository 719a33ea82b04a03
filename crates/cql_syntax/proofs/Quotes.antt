-- Texts with their quotes twice.
use Rattle.std.proofs.Common.{◌≡◌, ◌≢◌, ℕ, suc, false, [], ◌∷◌, ◌++◌, ◌==◌, refl, sym, ap, ◌∙◌, append_assoc, arith}
use Rattle.std.proofs.lemmas.Bool.Decides.{nat_tests}
use Rattle.cql_syntax.specs.Lex.{Bytes}
use Rattle.cql_syntax.specs.Spelling.{doubled}
use Rattle.cql_syntax.proofs.LexLemmas.{NoQuote}

eq_false : (b : ℕ) → b ≢ 39 → (b == 39) ≡ false
eq_false b h = grind (arith, nat_tests)

first_no : (b : ℕ) (z : Bytes) → NoQuote (b ∷ z) → b ≢ 39
first_no b z h = h 0 (omega arith)

rest_no : (b : ℕ) (z : Bytes) → NoQuote (b ∷ z) → NoQuote z
rest_no b z h i k = h (suc i) (omega arith)

doubled_here : (before after : Bytes) → NoQuote before → doubled (before ++ 39 ∷ after) ≡ before ++ (39 ∷ 39 ∷ doubled after)
doubled_here [] after h = refl
doubled_here (b ∷ z) after h = rw (eq_false b (first_no b z h)) (ap (λ w. b ∷ w) (doubled_here z after (rest_no b z h)))

doubled_none : (z : Bytes) → NoQuote z → doubled z ≡ z ++ 39 ∷ []
doubled_none [] h = refl
doubled_none (b ∷ z) h = rw (eq_false b (first_no b z h)) (ap (λ w. b ∷ w) (doubled_none z (rest_no b z h)))

pub doubled_turn : (out now before after text all : Bytes) → text ≡ before ++ 39 ∷ after → NoQuote before → now ≡ out ++ before ++ 39 ∷ 39 ∷ [] → out ++ doubled text ≡ all → now ++ doubled after ≡ all
doubled_turn out now before after text all e clean g h =
    let one : doubled text ≡ before ++ (39 ∷ 39 ∷ doubled after) = ap doubled e ∙ doubled_here before after clean in
    ap (λ w. w ++ doubled after) g ∙ append_assoc (out ++ before) (39 ∷ 39 ∷ []) (doubled after) ∙ append_assoc out before (39 ∷ 39 ∷ doubled after) ∙ ap (λ w. out ++ w) (sym one) ∙ h

pub doubled_end : (out now text all : Bytes) → NoQuote text → now ≡ out ++ text ++ 39 ∷ [] → out ++ doubled text ≡ all → now ≡ all
doubled_end out now text all clean g h = g ∙ append_assoc out text (39 ∷ []) ∙ ap (λ w. out ++ w) (sym (doubled_none text clean)) ∙ h
