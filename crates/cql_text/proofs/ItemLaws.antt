-- The readers of items decide their rules.
use Rattle.std.proofs.Common.{◌≡◌, ℕ, Bool, true, false, List, [], ◌∷◌, Option, Some, refl, sym, ap, ◌∙◌, subst, inl, inr}
use Rattle.cql_syntax.specs.declared.token.Fixed.TheVariants as k
use Rattle.cql_syntax.specs.declared.token.Token.{Token}
use Rattle.cql_syntax.specs.declared.token.Token.TheVariants as t
use Rattle.cql_syntax.specs.declared.syntax.Function.{Function}
use Rattle.cql_syntax.specs.declared.syntax.Function.TheVariants as f
use Rattle.cql_syntax.specs.declared.syntax.Aggregate.TheVariants as a
use Rattle.cql_syntax.specs.declared.syntax.Shown.{Shown}
use Rattle.cql_syntax.specs.declared.syntax.Shown.TheVariants as s
use Rattle.cql_syntax.specs.declared.syntax.Item.{Item}
use Rattle.cql_syntax.specs.declared.syntax.Selection.{Selection}
use Rattle.cql_syntax.specs.declared.syntax.Selection.TheVariants as e
use Rattle.cql_syntax.specs.Tokens.{is, same, sign, joined}
use Rattle.cql_syntax.specs.Operators.{function_of}
use Rattle.cql_text.specs.Meaning.{starts_aggregate}
use Rattle.cql_syntax.specs.Cursor.{expect, token_by}
use Rattle.cql_text.specs.Rules.{Rule}
use Rattle.cql_text.specs.Rules as rule
use Rattle.cql_text.specs.Grammar as grammar
use Rattle.cql_text.specs.Grammar.{IsColumn, IsExpression, IsCount, IsOver, IsShown, IsItem, IsSelection, most_levels}
use Rattle.cql_text.specs.Readers as read
use Rattle.cql_syntax.specs.Spelling.{function_word}
use Rattle.cql_text.proofs.Laws as law
use Rattle.cql_text.proofs.Readers.{Reader, Always, pure_reader, word_reader, one_reader}
use Rattle.cql_text.proofs.Parts.{Stops, Begins, first, both, both_always, made, weaken, anywhere, list_part, begins_word, begins_then, begins_one, begins_chain, begins_either, before_then, before_optional, before_pure, left_test, right_test, same_test}
use Rattle.cql_text.proofs.ChoiceReader.{choice_reader}
use Rattle.cql_text.proofs.Follow.{Test, after_name, after_sum, after_item, after_items}
use Rattle.cql_text.proofs.Names.{column_reader, name_after_reader, begins_behind, Behind, expression_reader, begins_expression, AtFirst}
use Rattle.cql_text.proofs.Conditions.{pick}

pub function_is : (x : Token) (op : Function) → function_of x ≡ Some op → x ≡ t.Fixed (function_word op)
function_is x op h = elim (pick k.Sum x f.Sum op _ h) [
  | inl g ↦ g.0 ∙ ap (λ p. t.Fixed (function_word p)) g.1
  | inr g ↦ elim (pick k.Min x f.Min op _ g) [
    | inl g ↦ g.0 ∙ ap (λ p. t.Fixed (function_word p)) g.1
    | inr g ↦ elim (pick k.Max x f.Max op _ g) [
      | inl g ↦ g.0 ∙ ap (λ p. t.Fixed (function_word p)) g.1
      | inr g ↦ absurd (let z : ⊥ = cc in z)
    ]
  ]
]

plain_function : (x : Token) (op : Function) → function_of x ≡ Some op → law.IsPlain x
plain_function x op h = subst law.IsPlain (sym (function_is x op h)) tt

abbrev IsAtFunctions : Test → Bool → Type 0
IsAtFunctions test b = (op : Function) → test (t.Fixed (function_word op)) ≡ b

by_function : (test : Test) (b : Bool) → test (t.Fixed k.Sum) ≡ b → test (t.Fixed k.Min) ≡ b → test (t.Fixed k.Max) ≡ b → (x : Token) (op : Function) → function_of x ≡ Some op → test x ≡ b
by_function test b p q r x f.Sum h = ap test (function_is x f.Sum h) ∙ p
by_function test b p q r x f.Min h = ap test (function_is x f.Min h) ∙ q
by_function test b p q r x f.Max h = ap test (function_is x f.Max h) ∙ r

count_reader : Reader read.count IsCount Always
unfolding read.count
count_reader =
    first (expect k.Count) (rule.word k.Count) _ _ Always (word_reader k.Count) (λ _.
    first (expect k.Open) (rule.word k.Open) _ _ Always (word_reader k.Open) (λ _.
    first (expect k.Star) (rule.word k.Star) _ _ Always (word_reader k.Star) (λ _.
    first (expect k.Close) (rule.word k.Close) _ _ Always (word_reader k.Close) (λ _. pure_reader a.Count))))

over_reader : Reader read.over IsOver Always
unfolding read.over same
over_reader =
    first (token_by function_of) (rule.one function_of) _ _ Always (one_reader function_of (t.Fixed k.Sum) f.Sum refl plain_function) (λ op.
    first (expect k.Open) (rule.word k.Open) _ _ Always (word_reader k.Open) (λ _.
    both_always read.column IsColumn _ _ after_name column_reader (λ x.
    first (expect k.Close) (rule.word k.Close) _ _ Always (word_reader k.Close) (λ _. pure_reader (a.Over op x)))
    (λ x. begins_then (rule.word k.Close) _ after_name false (begins_word k.Close after_name false refl))))

begins_over : (test : Test) (b : Bool) → test (t.Fixed k.Sum) ≡ b → test (t.Fixed k.Min) ≡ b → test (t.Fixed k.Max) ≡ b → Begins IsOver test b
begins_over test b p q r = begins_then (rule.one function_of) _ test b (begins_one function_of test b (by_function test b p q r))

begins_count : (test : Test) (b : Bool) → test (t.Fixed k.Count) ≡ b → Begins IsCount test b
begins_count test b h = begins_then (rule.word k.Count) _ test b (begins_word k.Count test b h)

abbrev AtAggregate : Test → Bool → Type 0
AtAggregate test b = (test (t.Fixed k.Count) ≡ b) × (test (t.Fixed k.Sum) ≡ b) × (test (t.Fixed k.Min) ≡ b) × (test (t.Fixed k.Max) ≡ b)

begins_aggregate : (test : Test) (b : Bool) → AtAggregate test b → Begins (rule.either IsCount IsOver) test b
begins_aggregate test b h = begins_either IsCount IsOver test b (begins_count test b h.0) (begins_over test b h.1 h.2 h.3)

aggregate_reader : Reader read.aggregate (rule.either IsCount IsOver) Always
unfolding read.aggregate same
aggregate_reader = choice_reader (is k.Count) _ _ IsCount IsOver Always count_reader over_reader (begins_count (is k.Count) true refl) (begins_over (is k.Count) false refl refl refl)

abbrev OfAggregate : Rule Shown
OfAggregate = rule.◌>>=◌ (rule.either IsCount IsOver) (λ x. rule.pure (s.Aggregate x))

abbrev OfExpression : Rule Shown
OfExpression = rule.◌>>=◌ (IsExpression most_levels) (λ x. rule.pure (s.Expression x))

shown_reader : Reader read.shown IsShown (Stops after_sum)
unfolding read.shown same
shown_reader =
    choice_reader starts_aggregate _ _ OfAggregate OfExpression (Stops after_sum)
    (anywhere after_sum (made read.aggregate (rule.either IsCount IsOver) s.Aggregate Always aggregate_reader))
    (made (read.sum most_levels) (IsExpression most_levels) s.Expression (Stops after_sum) (expression_reader most_levels))
    (begins_then (rule.either IsCount IsOver) _ starts_aggregate true (begins_aggregate starts_aggregate true (refl, refl, refl, refl)))
    (begins_then (IsExpression most_levels) _ starts_aggregate false (begins_expression starts_aggregate false (λ s. refl, refl, λ n. refl, λ s. refl, refl) most_levels))

pub begins_shown : (test : Test) (b : Bool) → AtAggregate test b → AtFirst test b → Begins IsShown test b
begins_shown test b g h =
    begins_either OfAggregate OfExpression test b (begins_then (rule.either IsCount IsOver) _ test b (begins_aggregate test b g))
    (begins_then (IsExpression most_levels) _ test b (begins_expression test b h most_levels))

item_reader : Reader read.item IsItem (Stops after_item)
unfolding read.item same
item_reader =
    both read.shown IsShown _ _ after_sum after_item shown_reader (λ x.
    made (read.name_after k.As) (rule.optional (Behind k.As)) (item_of x) (Stops after_item) (weaken (is k.As) after_item (left_test (is k.As) after_sum) (name_after_reader k.As)))
    (λ x. before_then (rule.optional (Behind k.As)) (λ alias. rule.pure (item_of x alias)) after_sum after_item after_item
    (before_optional (Behind k.As) after_sum after_item (begins_behind k.As after_sum false refl) (right_test (is k.As) after_sum))
    (λ alias. before_pure (item_of x alias) after_item after_item (same_test after_item)))
  where
    item_of : Shown → Option (List ℕ) → Item
    item_of x alias = record { shown = x; alias = alias }

begins_item : (test : Test) (b : Bool) → AtAggregate test b → AtFirst test b → Begins IsItem test b
begins_item test b g h = begins_then IsShown _ test b (begins_shown test b g h)

pub items_reader : Reader read.items (grammar.list_of IsItem) (Stops after_items)
unfolding read.items same
items_reader = list_part read.item IsItem after_item refl item_reader

pub begins_items : (test : Test) (b : Bool) → AtAggregate test b → AtFirst test b → Begins (grammar.list_of IsItem) test b
begins_items test b g h = begins_chain (rule.◌>>=◌ IsItem (λ x. rule.pure (x ∷ []))) (sign k.Comma) joined test b (begins_then IsItem _ test b (begins_item test b g h))

abbrev OfStar : Rule Selection
OfStar = rule.◌>>◌ (rule.word k.Star) (rule.pure e.All)

abbrev OfItems : Rule Selection
OfItems = rule.◌>>=◌ (grammar.list_of IsItem) (λ xs. rule.pure (e.List xs))

pub selection_reader : Reader read.selection IsSelection (Stops after_items)
unfolding read.selection same
selection_reader =
    choice_reader (is k.Star) _ _ OfStar OfItems (Stops after_items)
    (anywhere after_items (first (expect k.Star) (rule.word k.Star) _ _ Always (word_reader k.Star) (λ _. pure_reader e.All)))
    (made read.items (grammar.list_of IsItem) e.List (Stops after_items) items_reader)
    (begins_then (rule.word k.Star) _ (is k.Star) true (begins_word k.Star (is k.Star) true refl))
    (begins_then (grammar.list_of IsItem) _ (is k.Star) false (begins_items (is k.Star) false (refl, refl, refl, refl) (λ s. refl, refl, λ n. refl, λ s. refl, refl)))

pub begins_selection : (test : Test) (b : Bool) → test (t.Fixed k.Star) ≡ b → AtAggregate test b → AtFirst test b → Begins IsSelection test b
begins_selection test b f g h =
    begins_either OfStar OfItems test b (begins_then (rule.word k.Star) _ test b (begins_word k.Star test b f)) (begins_then (grammar.list_of IsItem) _ test b (begins_items test b g h))
