-- The tokens of a text, by what stands first.
use Rattle.std.proofs.Common.{◌≡◌, ℕ, Bool, true, false, List, [], ◌∷◌, refl, sym, ap, ◌∙◌}
use Rattle.json.specs.Token.{Token, begin_object, end_object, begin_array, end_array, key, string, number}
use Rattle.json.specs.Word.{head}
use Rattle.json.specs.Lex.{Lexeme, token, colon, between, lex, Place, fresh, after_value, after_comma, after_key, begins_colon, may_begin, if_allowed, place_token, punctuate}
use Rattle.cql_lines.specs.Plain.{is_mark, tokens_from, Passes, IsScalar}
use Rattle.cql_lines.proofs.Plain.{mark_is}

pub space_passed : (r : List ℕ) → lex between (32 ∷ r) ≡ lex between r
unfolding lex
space_passed r = refl

pub object_opens : (r : List ℕ) → tokens_from false (123 ∷ r) ≡ begin_object ∷ tokens_from false r
unfolding lex punctuate
object_opens r = refl

pub list_opens : (r : List ℕ) → tokens_from false (91 ∷ r) ≡ begin_array ∷ tokens_from false r
unfolding lex punctuate
list_opens r = refl

pub object_closes : (follows : Bool) (r : List ℕ) → tokens_from follows (125 ∷ r) ≡ end_object ∷ tokens_from true r
unfolding lex punctuate
object_closes true r = refl
object_closes false r = refl

pub list_closes : (follows : Bool) (r : List ℕ) → tokens_from follows (93 ∷ r) ≡ end_array ∷ tokens_from true r
unfolding lex punctuate
list_closes true r = refl
list_closes false r = refl

pub text_ends : tokens_from true [] ≡ []
unfolding lex punctuate
text_ends = refl

pub comma_passed : (r s : List ℕ) → lex between s ≡ lex between r → Passes true (44 ∷ r) s
unfolding lex punctuate
comma_passed r s same = (after_comma, refl, ap (punctuate after_comma) (sym same))

pub nothing_passed : (t : List ℕ) → Passes false t t
nothing_passed t = (fresh, refl, refl)

allowed : (b : Bool) (t : Token) (k : Place → List Token) (next : Place) → b ≡ true → if_allowed b t k next ≡ t ∷ k next
allowed b t k next e = ap (λ x. if_allowed x t k next) e

key_first : (p : Place) (s : List ℕ) (ls : List Lexeme) → may_begin p ≡ true → punctuate p (token (string s) ∷ colon ∷ ls) ≡ key s ∷ punctuate fresh ls
unfolding punctuate
key_first p s ls may = allowed (may_begin p) (key s) (λ n. punctuate n (colon ∷ ls)) after_key may

string_first : (p : Place) (s : List ℕ) (ls : List Lexeme) → may_begin p ≡ true → begins_colon ls ≡ false → punctuate p (token (string s) ∷ ls) ≡ string s ∷ punctuate after_value ls
unfolding punctuate
string_first p s ls may none = ap (λ b. place_token p (string s) b (λ n. punctuate n ls)) none ∙ allowed (may_begin p) (string s) (λ n. punctuate n ls) after_value may

number_first : (p : Place) (s : List ℕ) (ls : List Lexeme) → may_begin p ≡ true → punctuate p (token (number s) ∷ ls) ≡ number s ∷ punctuate after_value ls
unfolding punctuate
number_first p s ls may = allowed (may_begin p) (number s) (λ n. punctuate n ls) after_value may

no_colon : (t : List ℕ) → is_mark (head t) ≡ true → begins_colon (lex between t) ≡ false
unfolding lex
no_colon [] mark = absurd (cc)
no_colon (x ∷ xs) mark = mark_is (λ y. begins_colon (lex between (y ∷ xs)) ≡ false) refl refl refl x mark

pub string_read : (t u s : List ℕ) → lex between t ≡ token (string s) ∷ lex between u → is_mark (head u) ≡ true → IsScalar t (string s) u
string_read t u s first mark p may = ap (punctuate p) first ∙ string_first p s (lex between u) may (no_colon u mark)

pub number_read : (t u s : List ℕ) → lex between t ≡ token (number s) ∷ lex between u → IsScalar t (number s) u
number_read t u s first p may = ap (punctuate p) first ∙ number_first p s (lex between u) may

module _ (follows : Bool) (old t : List ℕ) (passes : Passes follows old t) where
  pub scalar_read : (k : Token) (u : List ℕ) → IsScalar t k u → tokens_from follows old ≡ k ∷ tokens_from true u
  scalar_read k u first = passes.2 ∙ first passes.0 passes.1

  pub key_read : (s u r v : List ℕ) → lex between t ≡ token (string s) ∷ lex between u → u ≡ 58 ∷ r → lex between v ≡ lex between r → tokens_from follows old ≡ key s ∷ tokens_from false v
  unfolding lex
  key_read s u r v first next same =
      passes.2 ∙ ap (punctuate passes.0) (first ∙ ap (λ w. token (string s) ∷ lex between w) next) ∙ key_first passes.0 s (lex between r) passes.1 ∙ ap (λ ls. key s ∷ punctuate fresh ls) (sym same)
