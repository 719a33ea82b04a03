-- The readers of conditions decide their rules.
use Rattle.std.proofs.Common.{◌≡◌, ℕ, zero, suc, Bool, true, false, List, Option, Some, refl, sym, ap, ◌∙◌, subst, ◌⊎◌, inl, inr, if◌then◌else◌}
use Rattle.cql_syntax.specs.declared.token.Fixed.{Fixed}
use Rattle.cql_syntax.specs.declared.token.Fixed.TheVariants as k
use Rattle.cql_syntax.specs.declared.token.Token.{Token}
use Rattle.cql_syntax.specs.declared.token.Token.TheVariants as t
use Rattle.cql_syntax.specs.declared.syntax.Operand.{Operand}
use Rattle.cql_syntax.specs.declared.syntax.Operand.TheVariants as e
use Rattle.cql_syntax.specs.declared.syntax.Comparison.{Comparison}
use Rattle.cql_syntax.specs.declared.syntax.Comparison.TheVariants as o
use Rattle.cql_syntax.specs.declared.syntax.Condition.{Condition}
use Rattle.cql_syntax.specs.declared.syntax.Condition.TheVariants as c
use Rattle.cql_syntax.specs.Tokens.{is, same, sign}
use Rattle.cql_syntax.specs.Tokens.{is_word}
use Rattle.cql_syntax.specs.Operators.{comparison_of}
use Rattle.cql_syntax.specs.Cursor.{Parser, expect, token_by}
use Rattle.cql_text.specs.Rules.{Rule}
use Rattle.cql_text.specs.Rules as rule
use Rattle.cql_text.specs.Grammar.{IsColumn, IsConstant, IsOperand, IsComparison, IsBothOf, IsEitherOf, IsPlain, IsCondition}
use Rattle.cql_text.specs.Readers as read
use Rattle.cql_syntax.specs.Spelling.{comparison_sign}
use Rattle.cql_text.proofs.Laws as law
use Rattle.cql_text.proofs.Readers.{Reader, Always, pure_reader, word_reader, one_reader, is_fixed}
use Rattle.cql_text.proofs.Parts.{Stops, Begins, first, both, both_always, made, anywhere, chain_part, plain_sign, begins_word, begins_then, begins_one, begins_either}
use Rattle.cql_text.proofs.ChoiceReader.{choice_reader}
use Rattle.cql_text.proofs.Follow.{Test, after_name, after_both, after_condition}
use Rattle.cql_text.proofs.Names.{column_reader, constant_reader, begins_column, begins_constant}

abbrev OfColumn : Rule Operand
OfColumn = rule.◌>>=◌ IsColumn (λ x. rule.pure (e.Column x))

abbrev OfConstant : Rule Operand
OfConstant = rule.◌>>=◌ IsConstant (λ x. rule.pure (e.Constant x))

pub operand_reader : Reader read.operand IsOperand (Stops after_name)
unfolding read.operand same
operand_reader =
    choice_reader is_word _ _ OfColumn OfConstant (Stops after_name)
    (made read.column IsColumn e.Column (Stops after_name) column_reader)
    (anywhere after_name (made read.constant IsConstant e.Constant Always constant_reader))
    (begins_then IsColumn _ is_word true (begins_column is_word true (λ s. refl)))
    (begins_then IsConstant _ is_word false (begins_constant is_word false refl (λ n. refl) (λ s. refl)))

pub begins_operand : (test : Test) (b : Bool) → ((s : List ℕ) → test (t.Word s) ≡ b) → test (t.Fixed k.Minus) ≡ b → ((n : ℕ) → test (t.Number n) ≡ b) → ((s : List ℕ) → test (t.Text s) ≡ b) → Begins IsOperand test b
begins_operand test b w m n s = begins_either OfColumn OfConstant test b (begins_then IsColumn _ test b (begins_column test b w)) (begins_then IsConstant _ test b (begins_constant test b m n s))

pub pick : {O : Type 0} (j : Fixed) (x : Token) (a y : O) (other : Option O) → (if is j x then Some a else other) ≡ Some y → ((x ≡ t.Fixed j) × (a ≡ y)) ⊎ (other ≡ Some y)
pick {O} j x a y other h = at (is j x) refl h
  where
    at : (b : Bool) → is j x ≡ b → (if b then Some a else other) ≡ Some y → ((x ≡ t.Fixed j) × (a ≡ y)) ⊎ (other ≡ Some y)
    at true f h = inl (is_fixed j x f, cc)
    at false f h = inr h

pub comparison_is : (x : Token) (op : Comparison) → comparison_of x ≡ Some op → x ≡ t.Fixed (comparison_sign op)
comparison_is x op h = elim (pick k.Equal x o.Equal op _ h) [
  | inl f ↦ f.0 ∙ ap (λ p. t.Fixed (comparison_sign p)) f.1
  | inr g ↦ elim (pick k.Unequal x o.Unequal op _ g) [
    | inl f ↦ f.0 ∙ ap (λ p. t.Fixed (comparison_sign p)) f.1
    | inr g ↦ elim (pick k.Less x o.Less op _ g) [
      | inl f ↦ f.0 ∙ ap (λ p. t.Fixed (comparison_sign p)) f.1
      | inr g ↦ elim (pick k.LessOrEqual x o.LessOrEqual op _ g) [
        | inl f ↦ f.0 ∙ ap (λ p. t.Fixed (comparison_sign p)) f.1
        | inr g ↦ elim (pick k.Greater x o.Greater op _ g) [
          | inl f ↦ f.0 ∙ ap (λ p. t.Fixed (comparison_sign p)) f.1
          | inr g ↦ elim (pick k.GreaterOrEqual x o.GreaterOrEqual op _ g) [
            | inl f ↦ f.0 ∙ ap (λ p. t.Fixed (comparison_sign p)) f.1
            | inr g ↦ absurd (let z : ⊥ = cc in z)
          ]
        ]
      ]
    ]
  ]
]

plain_comparison : (x : Token) (op : Comparison) → comparison_of x ≡ Some op → law.IsPlain x
plain_comparison x op h = subst law.IsPlain (sym (comparison_is x op h)) tt

name_stops : (op : Comparison) → after_name (t.Fixed (comparison_sign op)) ≡ false
unfolding same
name_stops o.Equal = refl
name_stops o.Unequal = refl
name_stops o.Less = refl
name_stops o.LessOrEqual = refl
name_stops o.Greater = refl
name_stops o.GreaterOrEqual = refl

compare_stops : (x : Token) (op : Comparison) → comparison_of x ≡ Some op → after_name x ≡ false
compare_stops x op h = ap after_name (comparison_is x op h) ∙ name_stops op

pub comparison_reader : Reader read.comparison IsComparison (Stops after_name)
unfolding read.comparison same
comparison_reader =
    both read.operand IsOperand _ _ after_name after_name operand_reader (λ left.
    first (token_by comparison_of) (rule.one comparison_of) _ _ (Stops after_name) (one_reader comparison_of (t.Fixed k.Equal) o.Equal refl plain_comparison) (λ how.
    made read.operand IsOperand (λ right. c.Compare left how right) (Stops after_name) operand_reader))
    (λ left ts rest x h st. begins_then (rule.one comparison_of) (λ how. rule.◌>>=◌ IsOperand (λ right. rule.pure (c.Compare left how right))) after_name false (begins_one comparison_of after_name false compare_stops) ts rest x h)

pub both_of_reader : (plain : Parser Condition) (Plain : Rule Condition) → Reader plain Plain (Stops after_name) → Reader (read.both_of plain) (IsBothOf Plain) (Stops after_both)
unfolding read.both_of same
both_of_reader plain Plain r = chain_part plain Plain (sign k.And) (λ _ x y. c.And x y) after_name (plain_sign k.And after_name refl) r

pub either_of_reader : (plain : Parser Condition) (Plain : Rule Condition) → Reader plain Plain (Stops after_name) → Reader (read.either_of plain) (IsEitherOf Plain) (Stops after_condition)
unfolding read.either_of same sign
either_of_reader plain Plain r = chain_part _ (IsBothOf Plain) (sign k.Or) (λ _ x y. c.Or x y) after_both (plain_sign k.Or after_both refl) (both_of_reader plain Plain r)

abbrev Negation : Rule Condition → Rule Condition
Negation Plain = rule.◌>>◌ (rule.word k.Not) (rule.◌>>=◌ Plain (λ x. rule.pure (c.Not x)))

abbrev Grouping : Rule Condition → Rule Condition
Grouping Inner = rule.◌>>◌ (rule.word k.Open) (rule.◌>>=◌ Inner (λ x. rule.◌>>◌ (rule.word k.Close) (rule.pure (c.Bracket x))))

negation_reader : (plain : Parser Condition) (Plain : Rule Condition) → Reader plain Plain (Stops after_name) → Reader (read.negation plain) (Negation Plain) (Stops after_name)
unfolding read.negation
negation_reader plain Plain r = first (expect k.Not) (rule.word k.Not) _ _ (Stops after_name) (word_reader k.Not) (λ _. made plain Plain c.Not (Stops after_name) r)

grouping_reader : (inner : Parser Condition) (Inner : Rule Condition) → Reader inner Inner (Stops after_condition) → Reader (read.grouping inner) (Grouping Inner) Always
unfolding read.grouping same sign
grouping_reader inner Inner r =
    first (expect k.Open) (rule.word k.Open) _ _ Always (word_reader k.Open) (λ _.
    both_always inner Inner _ _ after_condition r (λ x.
    first (expect k.Close) (rule.word k.Close) _ _ Always (word_reader k.Close) (λ _. pure_reader (c.Bracket x)))
    (λ x. begins_then (rule.word k.Close) _ after_condition false (begins_word k.Close after_condition false refl)))

begins_comparison : (test : Test) (b : Bool) → ((s : List ℕ) → test (t.Word s) ≡ b) → test (t.Fixed k.Minus) ≡ b → ((n : ℕ) → test (t.Number n) ≡ b) → ((s : List ℕ) → test (t.Text s) ≡ b) → Begins IsComparison test b
begins_comparison test b w m n s = begins_then IsOperand _ test b (begins_operand test b w m n s)

pub plain_reader : (level : ℕ) → Reader (read.plain level) (IsPlain level) (Stops after_name)
unfolding read.plain same
plain_reader zero = comparison_reader
plain_reader (suc n) =
    choice_reader (is k.Not) _ _ (Negation (IsPlain n)) (rule.either (Grouping (IsEitherOf (IsPlain n))) IsComparison) (Stops after_name)
    (negation_reader (read.plain n) (IsPlain n) (plain_reader n))
    (choice_reader (is k.Open) _ _ (Grouping (IsEitherOf (IsPlain n))) IsComparison (Stops after_name)
    (anywhere after_name (grouping_reader (read.either_of (read.plain n)) (IsEitherOf (IsPlain n)) (either_of_reader (read.plain n) (IsPlain n) (plain_reader n))))
    comparison_reader
    (begins_then (rule.word k.Open) _ (is k.Open) true (begins_word k.Open (is k.Open) true refl))
    (begins_comparison (is k.Open) false (λ s. refl) refl (λ n. refl) (λ s. refl)))
    (begins_then (rule.word k.Not) _ (is k.Not) true (begins_word k.Not (is k.Not) true refl))
    (begins_either (Grouping (IsEitherOf (IsPlain n))) IsComparison (is k.Not) false
    (begins_then (rule.word k.Open) _ (is k.Not) false (begins_word k.Open (is k.Not) false refl))
    (begins_comparison (is k.Not) false (λ s. refl) refl (λ n. refl) (λ s. refl)))

pub condition_reader : (level : ℕ) → Reader (read.condition level) (IsCondition level) (Stops after_condition)
unfolding read.condition
condition_reader level = either_of_reader (read.plain level) (IsPlain level) (plain_reader level)
