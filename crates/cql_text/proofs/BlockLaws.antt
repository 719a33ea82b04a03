-- The readers of blocks and queries decide their rules.
use Rattle.std.proofs.Common.{◌≡◌, ℕ, Bool, true, false, ◌||◌, List, ◌∷◌, Option, Some, None, refl, sym, ap, ◌∙◌, subst, inl, inr, is_some}
use Rattle.cql_syntax.specs.declared.token.Fixed.{Fixed}
use Rattle.cql_syntax.specs.declared.token.Fixed.TheVariants as k
use Rattle.cql_syntax.specs.declared.token.Token.{Token}
use Rattle.cql_syntax.specs.declared.token.Token.TheVariants as t
use Rattle.cql_syntax.specs.declared.syntax.QualifiedName.{QualifiedName}
use Rattle.cql_syntax.specs.declared.syntax.Selection.{Selection}
use Rattle.cql_syntax.specs.declared.syntax.Condition.{Condition}
use Rattle.cql_syntax.specs.declared.syntax.WrittenWindow.{WrittenWindow}
use Rattle.cql_syntax.specs.declared.syntax.Input.{Input}
use Rattle.cql_syntax.specs.declared.syntax.SelectBlock.{SelectBlock}
use Rattle.cql_syntax.specs.declared.syntax.SetOperator.{SetOperator}
use Rattle.cql_syntax.specs.declared.syntax.SetOperator.TheVariants as o
use Rattle.cql_syntax.specs.declared.syntax.StreamOperator.{StreamOperator}
use Rattle.cql_syntax.specs.declared.syntax.StreamOperator.TheVariants as s
use Rattle.cql_syntax.specs.declared.syntax.Second.{Second}
use Rattle.cql_syntax.specs.declared.syntax.Query.{Query}
use Rattle.cql_syntax.specs.Tokens.{is, same, knows, sign}
use Rattle.cql_syntax.specs.Operators.{set_operator_of, stream_operator_of}
use Rattle.cql_text.specs.Meaning.{starts_alias, or_unbounded, or_empty, to_list, unit_of}
use Rattle.cql_syntax.specs.Cursor.{expect, eat, token_by, next_is}
use Rattle.cql_text.specs.Rules.{Rule}
use Rattle.cql_text.specs.Rules as rule
use Rattle.cql_text.specs.Grammar as grammar
use Rattle.cql_text.specs.Grammar.{IsName, IsColumn, IsWindow, IsInput, IsInputs, IsCondition, IsRest, IsSelection, IsSelected, IsBlock, IsSecond, IsOuter, IsInner, IsWhole, IsQuery, query_of, most_levels}
use Rattle.cql_text.specs.Readers as read
use Rattle.cql_syntax.specs.Spelling.{set_word, stream_word}
use Rattle.cql_text.proofs.Laws as law
use Rattle.cql_text.proofs.Readers.{Reader, Always, pure_reader, word_reader, one_reader, may_reader}
use Rattle.cql_text.proofs.Parts.{Stops, Narrow, Before, Begins, first, both, both_always, made, pure_at, weaken, anywhere, optional_part, optional_always, list_part, begins_word, begins_then, begins_one, before_then, before_optional, before_may, before_begins, before_pure, left_test, right_test, same_test, or_left, or_right}
use Rattle.cql_text.proofs.ChoiceReader.{choice_reader}
use Rattle.cql_text.proofs.Follow.{Test, after_name, after_items, after_window, after_stream, after_input, after_inputs, after_condition, after_where, after_columns, after_block, after_whole, after_query}
use Rattle.cql_text.proofs.Names.{name_reader, begins_name, column_reader, begins_column}
use Rattle.cql_text.proofs.Conditions.{pick, condition_reader}
use Rattle.cql_text.proofs.ItemLaws.{selection_reader, begins_selection}
use Rattle.cql_text.proofs.WindowLaws.{window_reader}

-- ---- inputs

abbrev InSquares : Rule WrittenWindow
InSquares = rule.◌>>◌ (rule.word k.OpenSquare) (rule.◌>>=◌ IsWindow (λ w. rule.◌>>◌ (rule.word k.CloseSquare) (rule.pure w)))

in_squares_reader : Reader read.in_squares InSquares Always
unfolding read.in_squares same unit_of
in_squares_reader =
    first (expect k.OpenSquare) (rule.word k.OpenSquare) _ _ Always (word_reader k.OpenSquare) (λ _.
    both_always read.window IsWindow _ _ after_window window_reader (λ w.
    first (expect k.CloseSquare) (rule.word k.CloseSquare) _ _ Always (word_reader k.CloseSquare) (λ _. pure_reader w))
    (λ w. begins_then (rule.word k.CloseSquare) _ after_window false (begins_word k.CloseSquare after_window false refl)))

abbrev Alias : Rule (List ℕ)
Alias = rule.◌>>◌ (rule.may k.As) IsName

begins_alias : (test : Test) (b : Bool) → test (t.Fixed k.As) ≡ b → ((s : List ℕ) → test (t.Word s) ≡ b) → Begins Alias test b
begins_alias test b f g ts rest x h = at h.0 h.2
  where
    at : (a : Bool) → rule.may k.As ts a h.1 → next_is test ts ≡ b
    at true e = ap (next_is test) e ∙ f
    at false e = ap (next_is test) e ∙ begins_name test b g h.1 rest x h.3

alias_reader : Reader read.alias (rule.optional Alias) (Stops starts_alias)
unfolding read.alias same
alias_reader =
    optional_always starts_alias _ Alias
    (both_always (eat k.As) (rule.may k.As) _ _ (is k.As) (may_reader k.As) (λ _. name_reader) (λ _. begins_name (is k.As) false (λ s. refl)))
    (begins_alias starts_alias true refl (λ s. refl))

abbrev input_of : QualifiedName → Option WrittenWindow → Option (List ℕ) → Input
input_of stream w alias = record { stream = stream; window = or_unbounded w; alias = alias }

input_reader : Reader read.input IsInput (Stops after_input)
unfolding read.input same
input_reader =
    both read.column IsColumn _ _ after_name after_input column_reader (λ stream.
    both _ (rule.optional InSquares) _ _ (is k.OpenSquare) after_input
    (optional_always (is k.OpenSquare) read.in_squares InSquares in_squares_reader (begins_then (rule.word k.OpenSquare) _ (is k.OpenSquare) true (begins_word k.OpenSquare (is k.OpenSquare) true refl)))
    (λ w. made read.alias (rule.optional Alias) (input_of stream w) (Stops after_input) (weaken starts_alias after_input (left_test starts_alias after_stream) alias_reader))
    (λ w. tail stream w (is k.OpenSquare) refl (λ s. refl) (λ x h. or_left (is k.OpenSquare x) (after_name x) (or_right (starts_alias x) (after_stream x) h))))
    (λ stream. before_then (rule.optional InSquares) _ after_name after_name after_input
    (before_optional InSquares after_name after_name (begins_then (rule.word k.OpenSquare) _ after_name false (begins_word k.OpenSquare after_name false refl)) (same_test after_name))
    (λ w. tail stream w after_name refl (λ s. refl) to_name))
  where
    to_name : Narrow after_input after_name
    to_name x h = or_right (is k.OpenSquare x) (after_name x) (or_right (starts_alias x) (after_stream x) h)

    tail : (stream : QualifiedName) (w : Option WrittenWindow) (test : Test) → test (t.Fixed k.As) ≡ false → ((s : List ℕ) → test (t.Word s) ≡ false) → Narrow after_input test →
        Before (rule.◌>>=◌ (rule.optional Alias) (λ alias. rule.pure (input_of stream w alias))) test after_input
    tail stream w test f g n = before_then (rule.optional Alias) (λ alias. rule.pure (input_of stream w alias)) test after_input after_input
        (before_optional Alias test after_input (begins_alias test false f g) n) (λ alias. before_pure (input_of stream w alias) after_input after_input (same_test after_input))

begins_input : (test : Test) (b : Bool) → ((s : List ℕ) → test (t.Word s) ≡ b) → Begins IsInput test b
begins_input test b g = begins_then IsColumn _ test b (begins_column test b g)

abbrev NextInput : Rule Input
NextInput = rule.◌>>◌ (rule.word k.Comma) IsInput

next_input_reader : Reader read.next_input NextInput (Stops after_input)
unfolding read.next_input
next_input_reader = first (expect k.Comma) (rule.word k.Comma) _ _ (Stops after_input) (word_reader k.Comma) (λ _. input_reader)

begins_next : (test : Test) (b : Bool) → test (t.Fixed k.Comma) ≡ b → Begins NextInput test b
begins_next test b h = begins_then (rule.word k.Comma) _ test b (begins_word k.Comma test b h)

abbrev FurtherInputs : Rule (List Input)
FurtherInputs = rule.◌>>=◌ NextInput (λ second. rule.◌>>=◌ (rule.optional NextInput) (λ third. rule.pure (second ∷ to_list third)))

to_input : Narrow after_inputs after_input
to_input = right_test (is k.Comma) after_input

to_comma : Narrow after_inputs (is k.Comma)
to_comma = left_test (is k.Comma) after_input

further_inputs_reader : Reader read.further_inputs FurtherInputs (Stops after_inputs)
unfolding read.further_inputs same
further_inputs_reader =
    both read.next_input NextInput _ _ after_input after_inputs next_input_reader (λ second.
    made _ (rule.optional NextInput) (λ third. second ∷ to_list third) (Stops after_inputs)
    (optional_part (is k.Comma) read.next_input NextInput after_input after_inputs next_input_reader (begins_next (is k.Comma) true refl) to_input to_comma))
    (λ second. before_then (rule.optional NextInput) (λ third. rule.pure (second ∷ to_list third)) after_input after_inputs after_inputs
    (before_optional NextInput after_input after_inputs (begins_next after_input false refl) to_input)
    (λ third. before_pure (second ∷ to_list third) after_inputs after_inputs (same_test after_inputs)))

inputs_reader : Reader read.inputs IsInputs (Stops after_inputs)
unfolding read.inputs same
inputs_reader =
    both read.input IsInput _ _ after_input after_inputs input_reader (λ one.
    made _ (rule.optional FurtherInputs) (λ further. one ∷ or_empty further) (Stops after_inputs)
    (optional_part (is k.Comma) read.further_inputs FurtherInputs after_inputs after_inputs further_inputs_reader (begins_then NextInput _ (is k.Comma) true (begins_next (is k.Comma) true refl)) (same_test after_inputs) to_comma))
    (λ one. before_then (rule.optional FurtherInputs) (λ further. rule.pure (one ∷ or_empty further)) after_input after_inputs after_inputs
    (before_optional FurtherInputs after_input after_inputs (begins_then NextInput _ after_input false (begins_next after_input false refl)) to_input)
    (λ further. before_pure (one ∷ or_empty further) after_inputs after_inputs (same_test after_inputs)))

-- ---- the rest of a block

abbrev Where : Rule Condition
Where = rule.◌>>◌ (rule.word k.Where) (IsCondition most_levels)

begins_where : (test : Test) (b : Bool) → test (t.Fixed k.Where) ≡ b → Begins Where test b
begins_where test b h = begins_then (rule.word k.Where) _ test b (begins_word k.Where test b h)

where_to_condition : Narrow after_where after_condition
where_to_condition x h = or_left (after_condition x) (after_inputs x) (or_right (is k.Where x) (after_condition x || after_inputs x) h)

where_to_inputs : Narrow after_where after_inputs
where_to_inputs x h = or_right (after_condition x) (after_inputs x) (or_right (is k.Where x) (after_condition x || after_inputs x) h)

where_reader : Reader read.where_clause (rule.optional Where) (Stops after_where)
unfolding read.where_clause same
where_reader =
    optional_part (is k.Where) _ Where after_condition after_where
    (first (expect k.Where) (rule.word k.Where) _ _ (Stops after_condition) (word_reader k.Where) (λ _. condition_reader most_levels))
    (begins_where (is k.Where) true refl) where_to_condition (left_test (is k.Where) (λ x. after_condition x || after_inputs x))

abbrev Columns : Rule (List QualifiedName)
Columns = grammar.list_of IsColumn

columns_reader : Reader read.columns Columns (Stops after_columns)
unfolding read.columns same
columns_reader = list_part read.column IsColumn after_name refl column_reader

abbrev Groups : Rule (List QualifiedName)
Groups = rule.◌>>◌ (rule.word k.Group) (rule.◌>>◌ (rule.word k.By) Columns)

begins_groups : (test : Test) (b : Bool) → test (t.Fixed k.Group) ≡ b → Begins Groups test b
begins_groups test b h = begins_then (rule.word k.Group) _ test b (begins_word k.Group test b h)

block_to_columns : Narrow after_block after_columns
block_to_columns x h = or_left (after_columns x) (after_where x) (or_right (is k.Group x) (after_columns x || after_where x) h)

block_to_where : Narrow after_block after_where
block_to_where x h = or_right (after_columns x) (after_where x) (or_right (is k.Group x) (after_columns x || after_where x) h)

groups_reader : Reader read.group_clause (rule.optional Groups) (Stops after_block)
unfolding read.group_clause same
groups_reader =
    optional_part (is k.Group) _ Groups after_columns after_block
    (first (expect k.Group) (rule.word k.Group) _ _ (Stops after_columns) (word_reader k.Group) (λ _.
    first (expect k.By) (rule.word k.By) _ _ (Stops after_columns) (word_reader k.By) (λ _. columns_reader)))
    (begins_groups (is k.Group) true refl) block_to_columns (left_test (is k.Group) (λ x. after_columns x || after_where x))

module _ (distinct : Bool) (selection : Selection) where
  abbrev block_of : List Input → Option Condition → Option (List QualifiedName) → SelectBlock
  block_of inputs condition groups = record { distinct = distinct; selection = selection; inputs = inputs; condition = condition; groups = or_empty groups }

  abbrev GroupsEnd : List Input → Option Condition → Rule SelectBlock
  GroupsEnd inputs condition = rule.◌>>=◌ (rule.optional Groups) (λ groups. rule.pure (block_of inputs condition groups))

  before_groups : (inputs : List Input) (condition : Option Condition) (test : Test) → test (t.Fixed k.Group) ≡ false → Narrow after_block test → Before (GroupsEnd inputs condition) test after_block
  before_groups inputs condition test f n = before_then (rule.optional Groups) (λ groups. rule.pure (block_of inputs condition groups)) test after_block after_block
      (before_optional Groups test after_block (begins_groups test false f) n) (λ groups. before_pure (block_of inputs condition groups) after_block after_block (same_test after_block))

  abbrev WhereEnd : List Input → Rule SelectBlock
  WhereEnd inputs = rule.◌>>=◌ (rule.optional Where) (λ condition. GroupsEnd inputs condition)

  before_where : (inputs : List Input) → Before (WhereEnd inputs) after_inputs after_block
  unfolding same sign
  before_where inputs = before_then (rule.optional Where) (λ condition. GroupsEnd inputs condition) after_inputs after_inputs after_block
      (before_optional Where after_inputs after_inputs (begins_where after_inputs false refl) (same_test after_inputs))
      (λ condition. before_groups inputs condition after_inputs refl (λ x h. where_to_inputs x (block_to_where x h)))

  rest_reader : Reader (read.rest distinct selection) (IsRest distinct selection) (Stops after_block)
  unfolding read.rest same sign
  rest_reader =
      first (expect k.From) (rule.word k.From) _ _ (Stops after_block) (word_reader k.From) (λ _.
      both read.inputs IsInputs _ _ after_inputs after_block inputs_reader (λ inputs.
      both read.where_clause (rule.optional Where) _ _ after_where after_block where_reader (λ condition.
      made read.group_clause (rule.optional Groups) (block_of inputs condition) (Stops after_block) groups_reader)
      (λ condition. before_groups inputs condition after_where refl block_to_where))
      (λ inputs. before_where inputs))

begins_rest : (distinct : Bool) (selection : Selection) (test : Test) (b : Bool) → test (t.Fixed k.From) ≡ b → Begins (IsRest distinct selection) test b
begins_rest distinct selection test b h = begins_then (rule.word k.From) _ test b (begins_word k.From test b h)

abbrev Selected : Bool → Rule SelectBlock
Selected distinct = rule.◌>>=◌ IsSelection (IsRest distinct)

selected_reader : Reader read.selected IsSelected (Stops after_block)
unfolding read.selected same sign
selected_reader =
    both (eat k.Distinct) (rule.may k.Distinct) _ _ (is k.Distinct) after_block (may_reader k.Distinct) (λ distinct.
    both read.selection IsSelection _ _ after_items after_block selection_reader (λ selection. rest_reader distinct selection)
    (λ selection. before_begins (IsRest distinct selection) after_items after_block (begins_rest distinct selection after_items false refl)))
    (λ distinct. before_begins (Selected distinct) (is k.Distinct) after_block
    (begins_then IsSelection (IsRest distinct) (is k.Distinct) false (begins_selection (is k.Distinct) false refl (refl, refl, refl, refl) (λ s. refl, refl, λ n. refl, λ s. refl, refl))))

begins_may : {A : Type 0} (j : Fixed) (R : Bool → Rule A) (test : Test) → test (t.Fixed j) ≡ false → ((b : Bool) → Begins (R b) test false) → Begins (rule.◌>>=◌ (rule.may j) R) test false
begins_may {A} j R test f g ts rest x h = at h.0 h.2 h.3
  where
    at : (a : Bool) → rule.may j ts a h.1 → R a h.1 x rest → next_is test ts ≡ false
    at true e r = ap (next_is test) e ∙ f
    at false e r = ap (next_is test) e ∙ g false h.1 rest x r

block_reader : Reader read.block IsBlock (Stops after_block)
unfolding read.block
block_reader = first (expect k.Select) (rule.word k.Select) _ _ (Stops after_block) (word_reader k.Select) (λ _. selected_reader)

begins_block : (test : Test) (b : Bool) → test (t.Fixed k.Select) ≡ b → Begins IsBlock test b
begins_block test b h = begins_then (rule.word k.Select) _ test b (begins_word k.Select test b h)

-- ---- two blocks

pub set_is : (x : Token) (op : SetOperator) → set_operator_of x ≡ Some op → x ≡ t.Fixed (set_word op)
set_is x op h = elim (pick k.Union x o.UnionAll op _ h) [
  | inl g ↦ g.0 ∙ ap (λ p. t.Fixed (set_word p)) g.1
  | inr g ↦ elim (pick k.Except x o.ExceptAll op _ g) [
    | inl g ↦ g.0 ∙ ap (λ p. t.Fixed (set_word p)) g.1
    | inr g ↦ absurd (let z : ⊥ = cc in z)
  ]
]

plain_set : (x : Token) (op : SetOperator) → set_operator_of x ≡ Some op → law.IsPlain x
plain_set x op h = subst law.IsPlain (sym (set_is x op h)) tt

known : {O : Type 0} (f : Token → Option O) (x : Token) (op : O) → f x ≡ Some op → knows f x ≡ true
known f x op h = ap is_some h

by_set : (test : Test) (b : Bool) → test (t.Fixed k.Union) ≡ b → test (t.Fixed k.Except) ≡ b → (x : Token) (op : SetOperator) → set_operator_of x ≡ Some op → test x ≡ b
by_set test b p q x o.UnionAll h = ap test (set_is x o.UnionAll h) ∙ p
by_set test b p q x o.ExceptAll h = ap test (set_is x o.ExceptAll h) ∙ q

begins_second : (test : Test) (b : Bool) → ((x : Token) (op : SetOperator) → set_operator_of x ≡ Some op → test x ≡ b) → Begins IsSecond test b
begins_second test b g = begins_then (rule.one set_operator_of) _ test b (begins_one set_operator_of test b g)

second_reader : Reader read.second IsSecond (Stops after_block)
unfolding read.second same
second_reader =
    first (token_by set_operator_of) (rule.one set_operator_of) _ _ (Stops after_block) (one_reader set_operator_of (t.Fixed k.Union) o.UnionAll refl plain_set) (λ op.
    first (expect k.All) (rule.word k.All) _ _ (Stops after_block) (word_reader k.All) (λ _.
    made read.block IsBlock (λ b. second_of op b) (Stops after_block) block_reader))
  where
    second_of : SetOperator → SelectBlock → Second
    second_of op b = record { operator = op; block = b }

to_block : Narrow after_whole after_block
to_block = right_test (knows set_operator_of) after_block

second_if_any_reader : Reader read.second_if_any (rule.optional IsSecond) (Stops after_whole)
unfolding read.second_if_any
second_if_any_reader =
    optional_part (knows set_operator_of) read.second IsSecond after_block after_whole second_reader (begins_second (knows set_operator_of) true (known set_operator_of)) to_block (left_test (knows set_operator_of) after_block)

-- ---- queries

pub stream_is : (x : Token) (op : StreamOperator) → stream_operator_of x ≡ Some op → x ≡ t.Fixed (stream_word op)
stream_is x op h = elim (pick k.Istream x s.Istream op _ h) [
  | inl g ↦ g.0 ∙ ap (λ p. t.Fixed (stream_word p)) g.1
  | inr g ↦ elim (pick k.Dstream x s.Dstream op _ g) [
    | inl g ↦ g.0 ∙ ap (λ p. t.Fixed (stream_word p)) g.1
    | inr g ↦ elim (pick k.Rstream x s.Rstream op _ g) [
      | inl g ↦ g.0 ∙ ap (λ p. t.Fixed (stream_word p)) g.1
      | inr g ↦ absurd (let z : ⊥ = cc in z)
    ]
  ]
]

plain_stream : (x : Token) (op : StreamOperator) → stream_operator_of x ≡ Some op → law.IsPlain x
plain_stream x op h = subst law.IsPlain (sym (stream_is x op h)) tt

stream_reader : Reader (token_by stream_operator_of) (rule.one stream_operator_of) Always
unfolding same
stream_reader = one_reader stream_operator_of (t.Fixed k.Istream) s.Istream refl plain_stream

begins_stream : Begins (rule.one stream_operator_of) (knows stream_operator_of) true
begins_stream = begins_one stream_operator_of (knows stream_operator_of) true (known stream_operator_of)

abbrev SecondEnd : StreamOperator → SelectBlock → Rule Query
SecondEnd output b = rule.◌>>=◌ (rule.optional IsSecond) (λ second. rule.◌>>◌ (rule.word k.Close) (rule.pure (query_of (Some output) b second)))

outer_reader : Reader read.outer IsOuter Always
unfolding read.outer same sign
outer_reader =
    first (token_by stream_operator_of) (rule.one stream_operator_of) _ _ Always stream_reader (λ output.
    first (expect k.Open) (rule.word k.Open) _ _ Always (word_reader k.Open) (λ _.
    both_always read.block IsBlock _ _ after_block block_reader (λ b.
    both_always read.second_if_any (rule.optional IsSecond) _ _ after_whole second_if_any_reader (λ second.
    first (expect k.Close) (rule.word k.Close) _ _ Always (word_reader k.Close) (λ _. pure_reader (query_of (Some output) b second)))
    (λ second. begins_then (rule.word k.Close) _ after_whole false (begins_word k.Close after_whole false refl)))
    (λ b. second_end output b)))
  where
    second_end : (output : StreamOperator) (b : SelectBlock) → Begins (SecondEnd output b) after_block false
    second_end output b ts rest q h = at h.0 h.2 h.3
      where
        at : (x : Option Second) → rule.optional IsSecond ts x h.1 → rule.◌>>◌ (rule.word k.Close) (rule.pure (query_of (Some output) b x)) h.1 q rest → next_is after_block ts ≡ false
        at None e r = ap (next_is after_block) (e ∙ r.2)
        at (Some x) e r = begins_second after_block false (by_set after_block false refl refl) ts h.1 x e

inner_reader : Reader read.inner IsInner (Stops after_block)
unfolding read.inner same sign
inner_reader =
    first (token_by stream_operator_of) (rule.one stream_operator_of) _ _ (Stops after_block) stream_reader (λ output.
    first (expect k.Open) (rule.word k.Open) _ _ (Stops after_block) (word_reader k.Open) (λ _.
    both (eat k.Distinct) (rule.may k.Distinct) _ _ (is k.Distinct) after_block (may_reader k.Distinct) (λ distinct.
    both read.selection IsSelection _ _ after_items after_block selection_reader (λ selection.
    first (expect k.Close) (rule.word k.Close) _ _ (Stops after_block) (word_reader k.Close) (λ _.
    made (read.rest distinct selection) (IsRest distinct selection) (λ b. query_of (Some output) b None) (Stops after_block) (rest_reader distinct selection)))
    (λ selection. before_begins (Closed output distinct selection) after_items after_block (begins_then (rule.word k.Close) _ after_items false (begins_word k.Close after_items false refl))))
    (λ distinct. before_begins (rule.◌>>=◌ IsSelection (Closed output distinct)) (is k.Distinct) after_block
    (begins_then IsSelection _ (is k.Distinct) false (begins_selection (is k.Distinct) false refl (refl, refl, refl, refl) (λ s. refl, refl, λ n. refl, λ s. refl, refl))))))
  where
    Closed : StreamOperator → Bool → Selection → Rule Query
    Closed output distinct selection = rule.◌>>◌ (rule.word k.Close) (rule.◌>>=◌ (IsRest distinct selection) (λ b. rule.pure (query_of (Some output) b None)))

whole_reader : Reader read.whole IsWhole (Stops after_whole)
unfolding read.whole same sign
whole_reader =
    both read.selected IsSelected _ _ after_block after_whole selected_reader (λ b.
    made read.second_if_any (rule.optional IsSecond) (λ second. query_of None b second) (Stops after_whole) second_if_any_reader)
    (λ b. before_then (rule.optional IsSecond) (λ second. rule.pure (query_of None b second)) after_block after_whole after_whole
    (before_optional IsSecond after_block after_whole (begins_second after_block false (by_set after_block false refl refl)) to_block)
    (λ second. before_pure (query_of None b second) after_whole after_whole (same_test after_whole)))

abbrev SelectForm : Rule Query
SelectForm = rule.◌>>◌ (rule.word k.Select) (rule.either IsInner IsWhole)

body_reader : Reader read.body (rule.either IsOuter SelectForm) (Stops after_whole)
unfolding read.body same
body_reader =
    choice_reader (knows stream_operator_of) _ _ IsOuter SelectForm (Stops after_whole) (anywhere after_whole outer_reader)
    (first (expect k.Select) (rule.word k.Select) _ _ (Stops after_whole) (word_reader k.Select) (λ _.
    choice_reader (knows stream_operator_of) _ _ IsInner IsWhole (Stops after_whole) (weaken after_block after_whole to_block inner_reader) whole_reader
    (begins_then (rule.one stream_operator_of) _ (knows stream_operator_of) true begins_stream)
    (begins_then IsSelected _ (knows stream_operator_of) false
    (begins_may k.Distinct Selected (knows stream_operator_of) refl (λ b. begins_then IsSelection (IsRest b) (knows stream_operator_of) false
    (begins_selection (knows stream_operator_of) false refl (refl, refl, refl, refl) (λ s. refl, refl, λ n. refl, λ s. refl, refl)))))))
    (begins_then (rule.one stream_operator_of) _ (knows stream_operator_of) true begins_stream)
    (begins_then (rule.word k.Select) _ (knows stream_operator_of) false (begins_word k.Select (knows stream_operator_of) false refl))

pub query_reader : Reader read.query IsQuery (Stops after_query)
unfolding read.query same sign unit_of
query_reader =
    both read.body (rule.either IsOuter SelectForm) _ _ after_whole after_query body_reader (λ q.
    both (eat k.Semicolon) (rule.may k.Semicolon) _ _ (is k.Semicolon) after_query (may_reader k.Semicolon) (λ _. pure_at after_query q)
    (λ _. before_pure q (is k.Semicolon) after_query (left_test (is k.Semicolon) after_whole)))
    (λ q. before_then (rule.may k.Semicolon) (λ _. rule.pure q) after_whole after_query after_query
    (before_may k.Semicolon after_whole after_query refl (right_test (is k.Semicolon) after_whole))
    (λ _. before_pure q after_query after_query (same_test after_query)))
