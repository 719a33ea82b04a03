-- The readers of the rules in `Grammar.antt`: each decides by the next token.
use Rattle.std.specs.Prelude.{ℕ, zero, suc, Bool, List, ◌∷◌, Option, Some, None}
use Rattle.cql_syntax.specs.declared.token.Fixed.TheVariants as k
use Rattle.cql_syntax.specs.declared.syntax.QualifiedName.{QualifiedName}
use Rattle.cql_syntax.specs.declared.syntax.Constant.{Constant}
use Rattle.cql_syntax.specs.declared.syntax.Expression.{Expression}
use Rattle.cql_syntax.specs.declared.syntax.Expression.TheVariants as expression_kind
use Rattle.cql_syntax.specs.declared.syntax.Aggregate.{Aggregate}
use Rattle.cql_syntax.specs.declared.syntax.Aggregate.TheVariants as aggregate_kind
use Rattle.cql_syntax.specs.declared.syntax.Shown.{Shown}
use Rattle.cql_syntax.specs.declared.syntax.Shown.TheVariants as shown_kind
use Rattle.cql_syntax.specs.declared.syntax.Item.{Item}
use Rattle.cql_syntax.specs.declared.syntax.Selection.{Selection}
use Rattle.cql_syntax.specs.declared.syntax.Selection.TheVariants as selection_kind
use Rattle.cql_syntax.specs.declared.syntax.Operand.{Operand}
use Rattle.cql_syntax.specs.declared.syntax.Operand.TheVariants as operand_kind
use Rattle.cql_syntax.specs.declared.syntax.Condition.{Condition}
use Rattle.cql_syntax.specs.declared.syntax.Condition.TheVariants as condition_kind
use Rattle.cql_syntax.specs.declared.syntax.WrittenWindow.{WrittenWindow}
use Rattle.cql_syntax.specs.declared.syntax.WrittenWindow.TheVariants as window_kind
use Rattle.cql_syntax.specs.declared.syntax.Input.{Input}
use Rattle.cql_syntax.specs.declared.syntax.SelectBlock.{SelectBlock}
use Rattle.cql_syntax.specs.declared.syntax.Second.{Second}
use Rattle.cql_syntax.specs.declared.syntax.Query.{Query}
use Rattle.cql_syntax.specs.Tokens.{Tokens, is, knows, sign}
use Rattle.cql_syntax.specs.Tokens.{is_word}
use Rattle.cql_syntax.specs.Operators.{sum_sign, product_sign, function_of, comparison_of, stream_operator_of, set_operator_of}
use Rattle.cql_text.specs.Meaning.{name_of, starts_alias, qualified, constant_of, negative_of, starts_aggregate, number_from, unit_of, ticks_of, or_else, or_unbounded, or_empty, to_list}
use Rattle.cql_text.specs.Grammar.{most_levels, query_of}
use Rattle.cql_syntax.specs.Cursor.{Parser, next_is, expect, eat, token_by}
use Rattle.cql_text.specs.Reading.{◌>>=◌, ◌>>◌, pure, optional, choice, chain_of, list_of}

unfoldable pub name : Parser (List ℕ)
name = token_by name_of

-- a further name behind this word or sign, where it comes next
unfoldable pub name_after : k.the_data → Parser (Option (List ℕ))
name_after j = optional (is j) (expect j >> name)

unfoldable pub column : Parser QualifiedName
column = do
  first ← name
  second ← name_after k.Dot
  pure (qualified first second)

unfoldable pub constant : Parser Constant
constant = choice (is k.Minus) (expect k.Minus >> token_by negative_of) (token_by constant_of)

-- ---- expressions

unfoldable pub atom : Parser Expression
atom = choice is_word (column >>= (λ c. pure (expression_kind.Column c))) (constant >>= (λ c. pure (expression_kind.Constant c)))

unfoldable pub term_of : Parser Expression → Parser Expression
term_of factor = chain_of factor product_sign expression_kind.Binary

unfoldable pub sum_of : Parser Expression → Parser Expression
sum_of factor = chain_of (term_of factor) sum_sign expression_kind.Binary

unfoldable pub bracket : Parser Expression → Parser Expression
bracket inner = do
  expect k.Open
  x ← inner
  expect k.Close
  pure (expression_kind.Bracket x)

unfoldable pub factor : ℕ → Parser Expression
factor zero = atom
factor (suc level) = choice (is k.Open) (bracket (sum_of (factor level))) atom

unfoldable pub sum : ℕ → Parser Expression
sum level = sum_of (factor level)

-- ---- conditions

unfoldable pub operand : Parser Operand
operand = choice is_word (column >>= (λ c. pure (operand_kind.Column c))) (constant >>= (λ c. pure (operand_kind.Constant c)))

unfoldable pub comparison : Parser Condition
comparison = do
  left ← operand
  how ← token_by comparison_of
  right ← operand
  pure (condition_kind.Compare left how right)

unfoldable pub both_of : Parser Condition → Parser Condition
both_of plain = chain_of plain (sign k.And) (λ _ x y. condition_kind.And x y)

unfoldable pub either_of : Parser Condition → Parser Condition
either_of plain = chain_of (both_of plain) (sign k.Or) (λ _ x y. condition_kind.Or x y)

unfoldable pub negation : Parser Condition → Parser Condition
negation plain = do
  expect k.Not
  x ← plain
  pure (condition_kind.Not x)

unfoldable pub grouping : Parser Condition → Parser Condition
grouping inner = do
  expect k.Open
  x ← inner
  expect k.Close
  pure (condition_kind.Bracket x)

unfoldable pub plain : ℕ → Parser Condition
plain zero = comparison
plain (suc level) = choice (is k.Not) (negation (plain level)) (choice (is k.Open) (grouping (either_of (plain level))) comparison)

unfoldable pub condition : ℕ → Parser Condition
condition level = either_of (plain level)

-- ---- items

unfoldable pub count : Parser Aggregate
count = do
  expect k.Count
  expect k.Open
  expect k.Star
  expect k.Close
  pure aggregate_kind.Count

unfoldable pub over : Parser Aggregate
over = do
  function ← token_by function_of
  expect k.Open
  c ← column
  expect k.Close
  pure (aggregate_kind.Over function c)

unfoldable pub aggregate : Parser Aggregate
aggregate = choice (is k.Count) count over

unfoldable pub sees_aggregate : Tokens → Bool
sees_aggregate = next_is starts_aggregate

unfoldable pub shown : Parser Shown
shown = choice starts_aggregate (aggregate >>= (λ a. pure (shown_kind.Aggregate a))) (sum most_levels >>= (λ x. pure (shown_kind.Expression x)))

unfoldable pub item : Parser Item
item = do
  s ← shown
  alias ← name_after k.As
  pure (record { shown = s; alias = alias })

unfoldable pub items : Parser (List Item)
items = list_of item

unfoldable pub selection : Parser Selection
selection = choice (is k.Star) (expect k.Star >> pure selection_kind.All) (items >>= (λ xs. pure (selection_kind.List xs)))

-- ---- windows

unfoldable pub length : ℕ → Parser ℕ
length least = do
  n ← token_by (number_from least)
  ticks ← optional (knows unit_of) (token_by (ticks_of n))
  pure (or_else n ticks)

unfoldable pub unbounded : Parser WrittenWindow
unbounded = expect k.Unbounded >> pure window_kind.Unbounded

unfoldable pub time_slide : Parser (Option ℕ)
time_slide = optional (is k.Slide) (expect k.Slide >> length 1)

unfoldable pub bounded_range : Parser WrittenWindow
bounded_range = do
  n ← length 0
  slide ← time_slide
  pure (window_kind.Range n (or_else 1 slide))

unfoldable pub range : Parser WrittenWindow
range = expect k.Range >> choice (is k.Unbounded) unbounded bounded_range

unfoldable pub row_slide : Parser (Option ℕ)
row_slide = optional (is k.Slide) (expect k.Slide >> token_by (number_from 1))

unfoldable pub bounded_rows : Parser WrittenWindow
bounded_rows = do
  n ← token_by (number_from 1)
  slide ← row_slide
  pure (window_kind.Rows n (or_else 1 slide))

unfoldable pub rows : Parser WrittenWindow
rows = expect k.Rows >> choice (is k.Unbounded) unbounded bounded_rows

unfoldable pub names : Parser (List (List ℕ))
names = list_of name

unfoldable pub partition : Parser WrittenWindow
partition = do
  expect k.Partition
  expect k.By
  columns ← names
  expect k.Rows
  n ← token_by (number_from 1)
  pure (window_kind.Partition columns n)

unfoldable pub now : Parser WrittenWindow
now = expect k.Now >> pure (window_kind.Range 0 1)

unfoldable pub window : Parser WrittenWindow
window = choice (is k.Now) now (choice (is k.Unbounded) unbounded (choice (is k.Range) range (choice (is k.Rows) rows partition)))

unfoldable pub in_squares : Parser WrittenWindow
in_squares = do
  expect k.OpenSquare
  w ← window
  expect k.CloseSquare
  pure w

-- ---- blocks

abbrev pub window_if_any : Parser (Option WrittenWindow)
window_if_any = optional (is k.OpenSquare) in_squares

unfoldable pub sees_alias : Tokens → Bool
sees_alias = next_is starts_alias

unfoldable pub alias : Parser (Option (List ℕ))
alias = optional starts_alias (eat k.As >> name)

unfoldable pub input : Parser Input
input = do
  stream ← column
  w ← window_if_any
  a ← alias
  pure (record { stream = stream; window = or_unbounded w; alias = a })

unfoldable pub next_input : Parser Input
next_input = expect k.Comma >> input

abbrev pub next_if_any : Parser (Option Input)
next_if_any = optional (is k.Comma) next_input

unfoldable pub further_inputs : Parser (List Input)
further_inputs = do
  second ← next_input
  third ← next_if_any
  pure (second ∷ to_list third)

abbrev pub further_if_any : Parser (Option (List Input))
further_if_any = optional (is k.Comma) further_inputs

unfoldable pub inputs : Parser (List Input)
inputs = do
  first ← input
  further ← further_if_any
  pure (first ∷ or_empty further)

unfoldable pub where_clause : Parser (Option Condition)
where_clause = optional (is k.Where) (expect k.Where >> condition most_levels)

unfoldable pub columns : Parser (List QualifiedName)
columns = list_of column

unfoldable pub group_clause : Parser (Option (List QualifiedName))
group_clause = optional (is k.Group) (expect k.Group >> (expect k.By >> columns))

unfoldable pub rest : Bool → Selection → Parser SelectBlock
rest distinct selection = do
  expect k.From
  from ← inputs
  c ← where_clause
  groups ← group_clause
  pure (record { distinct = distinct; selection = selection; inputs = from; condition = c; groups = or_empty groups })

unfoldable pub selected : Parser SelectBlock
selected = do
  distinct ← eat k.Distinct
  s ← selection
  rest distinct s

unfoldable pub block : Parser SelectBlock
block = expect k.Select >> selected

unfoldable pub second : Parser Second
second = do
  operator ← token_by set_operator_of
  expect k.All
  b ← block
  pure (record { operator = operator; block = b })

unfoldable pub second_if_any : Parser (Option Second)
second_if_any = optional (knows set_operator_of) second

-- ---- queries

unfoldable pub outer : Parser Query
outer = do
  output ← token_by stream_operator_of
  expect k.Open
  first ← block
  further ← second_if_any
  expect k.Close
  pure (query_of (Some output) first further)

unfoldable pub inner : Parser Query
inner = do
  output ← token_by stream_operator_of
  expect k.Open
  distinct ← eat k.Distinct
  s ← selection
  expect k.Close
  b ← rest distinct s
  pure (query_of (Some output) b None)

unfoldable pub whole : Parser Query
whole = do
  first ← selected
  further ← second_if_any
  pure (query_of None first further)

unfoldable pub body : Parser Query
body = choice (knows stream_operator_of) outer (expect k.Select >> choice (knows stream_operator_of) inner whole)

unfoldable pub query : Parser Query
query = do
  q ← body
  eat k.Semicolon
  pure q
