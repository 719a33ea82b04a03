-- One step of the definitions that recur on a number.
use Rattle.std.proofs.Common.{◌≡◌, ℕ, zero, suc, ◌+◌, ◌-◌, ◌<◌, true, if◌then◌else◌, ◌&&◌, nat_lt, Option, Some, None, [], ◌∷◌, Ok, ◌||◌, is_some, refl, arith}
use Rattle.std.proofs.lemmas.Bool.Decides.{nat_tests}
use Rattle.cql_syntax.specs.declared.token.Fixed.{Fixed}
use Rattle.cql_syntax.specs.declared.token.Fixed.TheVariants as k
use Rattle.cql_syntax.specs.declared.token.Token.{Token}
use Rattle.cql_syntax.specs.Tokens.{Tokens, is, sign}
use Rattle.cql_syntax.specs.Cursor.{Parser, sees, next, next_is, at_head, linked}
use Rattle.cql_text.specs.Reading.{and_then, chain, choice}
use Rattle.cql_syntax.specs.Tokens.{knows}
use Rattle.cql_syntax.specs.Tokens.{is_word}
use Rattle.cql_syntax.specs.Operators.{function_of}
use Rattle.cql_text.specs.Readers as read

pub factor_at : (level : ℕ) (ts : Tokens) → read.factor level ts ≡ (if nat_lt 0 level && sees k.Open ts then read.bracket (read.sum (level - 1)) ts else read.atom ts)
unfolding read.factor read.sum choice
factor_at zero ts = refl
factor_at (suc n) ts = let t : nat_lt 0 (suc n) ≡ true = grind (arith, nat_tests) in let e : suc n - 1 ≡ n = omega arith in rw (t, e) refl

pub plain_at : (level : ℕ) (ts : Tokens) → read.plain level ts ≡
    (if nat_lt 0 level && sees k.Not ts then read.negation (read.plain (level - 1)) ts else (if nat_lt 0 level && sees k.Open ts then read.grouping (read.condition (level - 1)) ts else read.comparison ts))
unfolding read.plain read.condition choice
plain_at zero ts = refl
plain_at (suc n) ts = let t : nat_lt 0 (suc n) ≡ true = grind (arith, nat_tests) in let e : suc n - 1 ≡ n = omega arith in rw (t, e) refl

pub chain_turn : {A O : Type 0} (item : Parser A) (operator : Token → Option O) (join : O → A → A → A) (n at : ℕ) (left : A) (ts : Tokens) → at < n →
    chain item operator join (n - at) left ts ≡ linked (at_head operator ts) (Ok (left, ts)) (λ op. and_then (item (next ts)) (λ right. chain item operator join (n - (at + 1)) (join op left right)))
unfolding chain
chain_turn item operator join n at left ts h =
    let e : n - at ≡ suc (n - (at + 1)) = omega arith in rw e refl

pub head_sign : (j : Fixed) (ts : Tokens) → at_head (sign j) ts ≡ (if next_is (is j) ts then Some tt else None)
unfolding sign
head_sign j [] = refl
head_sign j (x ∷ ts) = refl

pub ruleset head_signs = (head_sign)

-- what is known of the next token
pub known_next : {O : Type 0} (f : Token → Option O) (ts : Tokens) → next_is (knows f) ts ≡ is_some (at_head f ts)
known_next f [] = refl
known_next f (x ∷ ts) = refl

pub aggregate_next : (ts : Tokens) → read.sees_aggregate ts ≡ (sees k.Count ts || is_some (at_head function_of ts))
unfolding read.sees_aggregate
aggregate_next [] = refl
aggregate_next (x ∷ ts) = refl

pub alias_next : (ts : Tokens) → read.sees_alias ts ≡ (sees k.As ts || next_is is_word ts)
unfolding read.sees_alias
alias_next [] = refl
alias_next (x ∷ ts) = refl
