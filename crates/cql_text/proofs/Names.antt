-- The readers of names, constants and expressions decide their rules.
use Rattle.std.proofs.Common.{◌≡◌, ◌≤◌, ◌<◌, ◌^◌, nat_lt, nat_le, ℕ, zero, suc, pos, Bool, true, false, List, [], ◌∷◌, Some, None, refl, sym, ap, ◌∙◌, subst, ◌⊎◌, inl, inr, if◌then◌else◌, arith}
use Rattle.std.proofs.lemmas.Bool.Decides.{nat_tests}
use Rattle.cql_value.specs.Name.{is_name, is_reserved}
use Rattle.cql_syntax.specs.declared.token.Fixed.{Fixed}
use Rattle.cql_syntax.specs.declared.token.Fixed.TheVariants as k
use Rattle.cql_syntax.specs.declared.token.Token.{Token}
use Rattle.cql_syntax.specs.declared.token.Token.TheVariants as t
use Rattle.cql_syntax.specs.declared.syntax.Constant.{Constant}
use Rattle.cql_syntax.specs.declared.syntax.Constant.TheVariants as c
use Rattle.cql_syntax.specs.declared.syntax.Expression.{Expression}
use Rattle.cql_syntax.specs.declared.syntax.Expression.TheVariants as e
use Rattle.cql_syntax.specs.declared.syntax.Operation.{Operation}
use Rattle.cql_syntax.specs.declared.syntax.Operation.TheVariants as o
use Rattle.cql_syntax.specs.Tokens.{is, same}
use Rattle.cql_syntax.specs.Tokens.{is_word}
use Rattle.cql_syntax.specs.Operators.{sum_sign, product_sign}
use Rattle.cql_text.specs.Meaning.{name_of, qualified, constant_of, negative_of, minus}
use Rattle.cql_syntax.specs.Cursor.{Parser, expect, token_by}
use Rattle.cql_text.specs.Reading.{and_then}
use Rattle.cql_text.specs.Rules.{Rule}
use Rattle.cql_text.specs.Rules as rule
use Rattle.cql_text.specs.Grammar.{IsName, IsColumn, IsConstant, IsAtom, IsTermOf, IsSumOf, IsFactor, IsExpression}
use Rattle.cql_text.specs.Readers as read
use Rattle.cql_text.proofs.Laws.{IsPlain}
use Rattle.cql_text.proofs.Readers.{Reader, Always, pure_reader, word_reader, one_reader, is_fixed, same_self}
use Rattle.cql_text.proofs.Parts.{Stops, Begins, first, both_always, made, anywhere, optional_always, chain_part, begins_word, begins_then, begins_one, begins_chain, begins_either}
use Rattle.cql_text.proofs.ChoiceReader.{choice_reader}
use Rattle.cql_text.proofs.Follow.{Test, after_name, after_term, after_sum}

-- ---- names

pub a_name : is_name (97 ∷ []) ≡ true
unfolding is_reserved
a_name = refl

pub name_is : (u : Token) (s : List ℕ) → name_of u ≡ Some s → (u ≡ t.Word s) × (is_name s ≡ true)
name_is (t.Word w) s h = at (is_name w) refl h
  where
    at : (b : Bool) → is_name w ≡ b → (if b then Some w else None) ≡ Some s → (t.Word w ≡ t.Word s) × (is_name s ≡ true)
    at true f h = let g : w ≡ s = cc in (ap t.Word g, subst (λ z. is_name z ≡ true) g f)
    at false f h = cc
name_is (t.Fixed j) s h = cc
name_is (t.Number n) s h = cc
name_is (t.Text w) s h = cc

plain_name : (u : Token) (s : List ℕ) → name_of u ≡ Some s → IsPlain u
plain_name u s h = let f = name_is u s h in subst IsPlain (sym f.0) f.1

pub name_reader : Reader read.name IsName Always
unfolding read.name
name_reader = one_reader name_of (t.Word (97 ∷ [])) (97 ∷ []) (ap (λ b. if b then Some (97 ∷ []) else None) a_name) plain_name

pub begins_name : (test : Test) (b : Bool) → ((s : List ℕ) → test (t.Word s) ≡ b) → Begins IsName test b
begins_name test b g = begins_one name_of test b (λ u s h. ap test (name_is u s h).0 ∙ g s)

abbrev pub Behind : Fixed → Rule (List ℕ)
Behind j = rule.◌>>◌ (rule.word j) IsName

pub begins_behind : (j : Fixed) (test : Test) (b : Bool) → test (t.Fixed j) ≡ b → Begins (Behind j) test b
begins_behind j test b h = begins_then (rule.word j) (λ _. IsName) test b (begins_word j test b h)

pub behind_reader : (j : Fixed) → Reader (λ ts. and_then (expect j ts) (λ _. read.name)) (Behind j) Always
behind_reader j = first (expect j) (rule.word j) (λ _. read.name) (λ _. IsName) Always (word_reader j) (λ _. name_reader)

pub name_after_reader : (j : Fixed) → Reader (read.name_after j) (rule.optional (Behind j)) (Stops (is j))
unfolding read.name_after
name_after_reader j = optional_always (is j) _ (Behind j) (behind_reader j) (begins_behind j (is j) true (same_self j))

pub column_reader : Reader read.column IsColumn (Stops after_name)
unfolding read.column
column_reader =
    first read.name IsName _ _ (Stops after_name) name_reader (λ x.
    made (read.name_after k.Dot) (rule.optional (Behind k.Dot)) (qualified x) (Stops after_name) (name_after_reader k.Dot))

pub begins_column : (test : Test) (b : Bool) → ((s : List ℕ) → test (t.Word s) ≡ b) → Begins IsColumn test b
begins_column test b g = begins_then IsName _ test b (begins_name test b g)

-- ---- constants

in_range : (n limit : ℕ) (x y : Constant) → (if nat_lt n limit then Some x else None) ≡ Some y → n < limit
in_range n limit x y h = at (nat_lt n limit) refl h
  where
    at : (b : Bool) → nat_lt n limit ≡ b → (if b then Some x else None) ≡ Some y → n < limit
    at true f h = grind (arith, nat_tests)
    at false f h = cc

up_to : (n limit : ℕ) (x y : Constant) → (if nat_le n limit then Some x else None) ≡ Some y → n ≤ limit
up_to n limit x y h = at (nat_le n limit) refl h
  where
    at : (b : Bool) → nat_le n limit ≡ b → (if b then Some x else None) ≡ Some y → n ≤ limit
    at true f h = grind (arith, nat_tests)
    at false f h = cc

plain_constant : (u : Token) (x : Constant) → constant_of u ≡ Some x → IsPlain u
plain_constant (t.Number n) x h = let f = in_range n (2 ^ 63) (c.Number (pos n)) x h in omega arith
plain_constant (t.Text s) x h = tt
plain_constant (t.Fixed j) x h = cc
plain_constant (t.Word s) x h = cc

plain_negative : (u : Token) (x : Constant) → negative_of u ≡ Some x → IsPlain u
plain_negative (t.Number n) x h = let f = up_to n (2 ^ 63) (c.Number (minus n)) x h in omega arith
plain_negative (t.Text s) x h = tt
plain_negative (t.Fixed j) x h = cc
plain_negative (t.Word s) x h = cc

constant_is : (test : Test) (b : Bool) → ((n : ℕ) → test (t.Number n) ≡ b) → ((s : List ℕ) → test (t.Text s) ≡ b) → (u : Token) (x : Constant) → constant_of u ≡ Some x → test u ≡ b
constant_is test b f g (t.Number n) x h = f n
constant_is test b f g (t.Text s) x h = g s
constant_is test b f g (t.Fixed j) x h = cc
constant_is test b f g (t.Word s) x h = cc

abbrev pub Negative : Rule Constant
Negative = rule.◌>>◌ (rule.word k.Minus) (rule.one negative_of)

pub constant_reader : Reader read.constant IsConstant Always
unfolding read.constant same
constant_reader =
    choice_reader (is k.Minus) _ _ Negative (rule.one constant_of) Always
    (first (expect k.Minus) (rule.word k.Minus) (λ _. token_by negative_of) (λ _. rule.one negative_of) Always (word_reader k.Minus)
    (λ _. one_reader negative_of (t.Number 0) (c.Number (pos 0)) refl plain_negative))
    (one_reader constant_of (t.Number 0) (c.Number (pos 0)) refl plain_constant)
    (begins_then (rule.word k.Minus) _ (is k.Minus) true (begins_word k.Minus (is k.Minus) true refl))
    (begins_one constant_of (is k.Minus) false (constant_is (is k.Minus) false (λ n. refl) (λ s. refl)))

-- the test answers b at each token that an expression may begin with
abbrev pub AtFirst : Test → Bool → Type 0
AtFirst test b = ((s : List ℕ) → test (t.Word s) ≡ b) × (test (t.Fixed k.Minus) ≡ b) × ((n : ℕ) → test (t.Number n) ≡ b) × ((s : List ℕ) → test (t.Text s) ≡ b) × (test (t.Fixed k.Open) ≡ b)

pub begins_constant : (test : Test) (b : Bool) → test (t.Fixed k.Minus) ≡ b → ((n : ℕ) → test (t.Number n) ≡ b) → ((s : List ℕ) → test (t.Text s) ≡ b) → Begins IsConstant test b
begins_constant test b m n s =
    begins_either Negative (rule.one constant_of) test b (begins_then (rule.word k.Minus) _ test b (begins_word k.Minus test b m)) (begins_one constant_of test b (constant_is test b n s))

-- ---- expressions

abbrev OfColumn : Rule Expression
OfColumn = rule.◌>>=◌ IsColumn (λ x. rule.pure (e.Column x))

abbrev OfConstant : Rule Expression
OfConstant = rule.◌>>=◌ IsConstant (λ x. rule.pure (e.Constant x))

pub atom_reader : Reader read.atom IsAtom (Stops after_name)
unfolding read.atom same
atom_reader =
    choice_reader is_word _ _ OfColumn OfConstant (Stops after_name)
    (made read.column IsColumn e.Column (Stops after_name) column_reader)
    (anywhere after_name (made read.constant IsConstant e.Constant Always constant_reader))
    (begins_then IsColumn _ is_word true (begins_column is_word true (λ s. refl)))
    (begins_then IsConstant _ is_word false (begins_constant is_word false refl (λ n. refl) (λ s. refl)))

begins_atom : (test : Test) (b : Bool) → AtFirst test b → Begins IsAtom test b
begins_atom test b f = begins_either OfColumn OfConstant test b (begins_then IsColumn _ test b (begins_column test b f.0)) (begins_then IsConstant _ test b (begins_constant test b f.1 f.2 f.3))

product_is : (x : Token) (op : Operation) → product_sign x ≡ Some op → x ≡ t.Fixed k.Star
product_is x op h = at (is k.Star x) refl h
  where
    at : (b : Bool) → is k.Star x ≡ b → (if b then Some o.Multiply else None) ≡ Some op → x ≡ t.Fixed k.Star
    at true f h = is_fixed k.Star x f
    at false f h = cc

plain_product : (x : Token) (op : Operation) → product_sign x ≡ Some op → IsPlain x × (after_name x ≡ false)
unfolding same
plain_product x op h = let f = product_is x op h in (subst IsPlain (sym f) tt, ap after_name f)

sum_is : (x : Token) (op : Operation) → sum_sign x ≡ Some op → (x ≡ t.Fixed k.Plus) ⊎ (x ≡ t.Fixed k.Minus)
sum_is x op h = at (is k.Plus x) (is k.Minus x) refl refl h
  where
    at : (b d : Bool) → is k.Plus x ≡ b → is k.Minus x ≡ d → (if b then Some o.Add else (if d then Some o.Subtract else None)) ≡ Some op → (x ≡ t.Fixed k.Plus) ⊎ (x ≡ t.Fixed k.Minus)
    at true d f g h = inl (is_fixed k.Plus x f)
    at false true f g h = inr (is_fixed k.Minus x g)
    at false false f g h = cc

plain_sum : (x : Token) (op : Operation) → sum_sign x ≡ Some op → IsPlain x × (after_term x ≡ false)
unfolding same
plain_sum x op h = at (sum_is x op h)
  where
    at : (x ≡ t.Fixed k.Plus) ⊎ (x ≡ t.Fixed k.Minus) → IsPlain x × (after_term x ≡ false)
    at (inl f) = (subst IsPlain (sym f) tt, ap after_term f)
    at (inr f) = (subst IsPlain (sym f) tt, ap after_term f)

pub sum_of_reader : (factor : Parser Expression) (Factor : Rule Expression) → Reader factor Factor (Stops after_name) → Reader (read.sum_of factor) (IsSumOf Factor) (Stops after_sum)
unfolding read.sum_of read.term_of
sum_of_reader factor Factor r = chain_part _ (IsTermOf Factor) sum_sign e.Binary after_term plain_sum (chain_part factor Factor product_sign e.Binary after_name plain_product r)

abbrev InBrackets : Rule Expression → Rule Expression
InBrackets Inner = rule.◌>>◌ (rule.word k.Open) (rule.◌>>=◌ Inner (λ x. rule.◌>>◌ (rule.word k.Close) (rule.pure (e.Bracket x))))

bracket_reader : (inner : Parser Expression) (Inner : Rule Expression) → Reader inner Inner (Stops after_sum) → Reader (read.bracket inner) (InBrackets Inner) Always
unfolding read.bracket same
bracket_reader inner Inner r =
    first (expect k.Open) (rule.word k.Open) _ _ Always (word_reader k.Open) (λ _.
    both_always inner Inner _ _ after_sum r (λ x.
    first (expect k.Close) (rule.word k.Close) _ _ Always (word_reader k.Close) (λ _. pure_reader (e.Bracket x)))
    (λ x. begins_then (rule.word k.Close) _ after_sum false (begins_word k.Close after_sum false refl)))

pub factor_reader : (level : ℕ) → Reader (read.factor level) (IsFactor level) (Stops after_name)
unfolding read.factor same
factor_reader zero = atom_reader
factor_reader (suc n) =
    choice_reader (is k.Open) _ _ (InBrackets (IsSumOf (IsFactor n))) IsAtom (Stops after_name)
    (anywhere after_name (bracket_reader (read.sum_of (read.factor n)) (IsSumOf (IsFactor n)) (sum_of_reader (read.factor n) (IsFactor n) (factor_reader n))))
    atom_reader
    (begins_then (rule.word k.Open) _ (is k.Open) true (begins_word k.Open (is k.Open) true refl))
    (begins_either OfColumn OfConstant (is k.Open) false (begins_then IsColumn _ (is k.Open) false (begins_column (is k.Open) false (λ s. refl)))
    (begins_then IsConstant _ (is k.Open) false (begins_constant (is k.Open) false refl (λ n. refl) (λ s. refl))))

begins_factor : (test : Test) (b : Bool) → AtFirst test b → (level : ℕ) → Begins (IsFactor level) test b
begins_factor test b f zero = begins_atom test b f
begins_factor test b f (suc n) = begins_either (InBrackets (IsSumOf (IsFactor n))) IsAtom test b (begins_then (rule.word k.Open) _ test b (begins_word k.Open test b f.4)) (begins_atom test b f)

pub expression_reader : (level : ℕ) → Reader (read.sum level) (IsExpression level) (Stops after_sum)
unfolding read.sum
expression_reader level = sum_of_reader (read.factor level) (IsFactor level) (factor_reader level)

pub begins_expression : (test : Test) (b : Bool) → AtFirst test b → (level : ℕ) → Begins (IsExpression level) test b
begins_expression test b f level = begins_chain (IsTermOf (IsFactor level)) sum_sign e.Binary test b (begins_chain (IsFactor level) product_sign e.Binary test b (begins_factor test b f level))
