-- The grammar: each rule is a production, factored from the left.
use Rattle.std.specs.Prelude.{ℕ, zero, suc, Bool, List, [], ◌∷◌, ◌++◌, Option, Some, None}
use Rattle.cql_syntax.specs.declared.token.Fixed.TheVariants as k
use Rattle.cql_syntax.specs.declared.syntax.QualifiedName.{QualifiedName}
use Rattle.cql_syntax.specs.declared.syntax.Constant.{Constant}
use Rattle.cql_syntax.specs.declared.syntax.Expression.{Expression}
use Rattle.cql_syntax.specs.declared.syntax.Expression.TheVariants as expression
use Rattle.cql_syntax.specs.declared.syntax.Aggregate.{Aggregate}
use Rattle.cql_syntax.specs.declared.syntax.Aggregate.TheVariants as aggregate
use Rattle.cql_syntax.specs.declared.syntax.Shown.{Shown}
use Rattle.cql_syntax.specs.declared.syntax.Shown.TheVariants as shown
use Rattle.cql_syntax.specs.declared.syntax.Item.{Item}
use Rattle.cql_syntax.specs.declared.syntax.Selection.{Selection}
use Rattle.cql_syntax.specs.declared.syntax.Selection.TheVariants as selection
use Rattle.cql_syntax.specs.declared.syntax.Operand.{Operand}
use Rattle.cql_syntax.specs.declared.syntax.Operand.TheVariants as operand
use Rattle.cql_syntax.specs.declared.syntax.Condition.{Condition}
use Rattle.cql_syntax.specs.declared.syntax.Condition.TheVariants as condition
use Rattle.cql_syntax.specs.declared.syntax.WrittenWindow.{WrittenWindow}
use Rattle.cql_syntax.specs.declared.syntax.WrittenWindow.TheVariants as window
use Rattle.cql_syntax.specs.declared.syntax.Input.{Input}
use Rattle.cql_syntax.specs.declared.syntax.SelectBlock.{SelectBlock}
use Rattle.cql_syntax.specs.declared.syntax.Second.{Second}
use Rattle.cql_syntax.specs.declared.syntax.StreamOperator.{StreamOperator}
use Rattle.cql_syntax.specs.declared.syntax.Query.{Query}
use Rattle.cql_syntax.specs.Tokens.{Tokens, sign, joined}
use Rattle.cql_syntax.specs.Operators.{sum_sign, product_sign, function_of, comparison_of, stream_operator_of, set_operator_of}
use Rattle.cql_text.specs.Meaning.{name_of, qualified, constant_of, negative_of, number_from, ticks_of, or_else, or_unbounded, or_empty, to_list}
use Rattle.cql_text.specs.Rules.{Rule, ◌>>=◌, ◌>>◌, pure, word, one, optional, may, either, chain}

-- R { "," R }
abbrev pub list_of : {A : Type 0} → Rule A → Rule (List A)
list_of R = chain (R >>= (λ x. pure (x ∷ []))) (sign k.Comma) joined

abbrev pub IsName : Rule (List ℕ)
IsName = one name_of

-- name [ "." name ]: a column, or a stream
abbrev pub IsColumn : Rule QualifiedName
IsColumn = do
  first ← IsName
  second ← optional (word k.Dot >> IsName)
  pure (qualified first second)

-- number | "-" number | text
abbrev pub IsConstant : Rule Constant
IsConstant = either (word k.Minus >> one negative_of) (one constant_of)

-- ---- expressions

-- constant | column
abbrev pub IsAtom : Rule Expression
IsAtom = either (IsColumn >>= (λ c. pure (expression.Column c))) (IsConstant >>= (λ c. pure (expression.Constant c)))

-- factor { "*" factor }
abbrev pub IsTermOf : Rule Expression → Rule Expression
IsTermOf Factor = chain Factor product_sign expression.Binary

-- term { ( "+" | "-" ) term }
abbrev pub IsSumOf : Rule Expression → Rule Expression
IsSumOf Factor = chain (IsTermOf Factor) sum_sign expression.Binary

-- constant | column | "(" expression ")", where the brackets open at most so many levels
abbrev pub IsFactor : ℕ → Rule Expression
IsFactor zero = IsAtom
IsFactor (suc level) = either (do
  word k.Open
  x ← IsSumOf (IsFactor level)
  word k.Close
  pure (expression.Bracket x)) IsAtom

abbrev pub IsExpression : ℕ → Rule Expression
IsExpression level = IsSumOf (IsFactor level)

-- ---- conditions

-- constant | column
abbrev pub IsOperand : Rule Operand
IsOperand = either (IsColumn >>= (λ c. pure (operand.Column c))) (IsConstant >>= (λ c. pure (operand.Constant c)))

-- operand compare operand
abbrev pub IsComparison : Rule Condition
IsComparison = do
  left ← IsOperand
  how ← one comparison_of
  right ← IsOperand
  pure (condition.Compare left how right)

-- plain { AND plain }
abbrev pub IsBothOf : Rule Condition → Rule Condition
IsBothOf Plain = chain Plain (sign k.And) (λ _ x y. condition.And x y)

-- both { OR both }
abbrev pub IsEitherOf : Rule Condition → Rule Condition
IsEitherOf Plain = chain (IsBothOf Plain) (sign k.Or) (λ _ x y. condition.Or x y)

-- NOT plain | "(" condition ")" | operand compare operand, where NOT and the brackets open at most so many levels
abbrev pub IsPlain : ℕ → Rule Condition
IsPlain zero = IsComparison
IsPlain (suc level) = either (do
  word k.Not
  x ← IsPlain level
  pure (condition.Not x))
    (either (do
      word k.Open
      x ← IsEitherOf (IsPlain level)
      word k.Close
      pure (condition.Bracket x)) IsComparison)

abbrev pub IsCondition : ℕ → Rule Condition
IsCondition level = IsEitherOf (IsPlain level)

abbrev pub most_levels : ℕ
most_levels = 16

-- ---- items

-- COUNT "(" "*" ")"
abbrev pub IsCount : Rule Aggregate
IsCount = do
  word k.Count
  word k.Open
  word k.Star
  word k.Close
  pure aggregate.Count

-- ( SUM | MIN | MAX ) "(" column ")"
abbrev pub IsOver : Rule Aggregate
IsOver = do
  function ← one function_of
  word k.Open
  column ← IsColumn
  word k.Close
  pure (aggregate.Over function column)

-- expression | aggregate
abbrev pub IsShown : Rule Shown
IsShown = either (either IsCount IsOver >>= (λ a. pure (shown.Aggregate a))) (IsExpression most_levels >>= (λ x. pure (shown.Expression x)))

-- ( expression | aggregate ) [ AS name ]
abbrev pub IsItem : Rule Item
IsItem = do
  shown ← IsShown
  alias ← optional (word k.As >> IsName)
  pure (record { shown = shown; alias = alias })

-- "*" | item { "," item }
abbrev pub IsSelection : Rule Selection
IsSelection = either (word k.Star >> pure selection.All) (list_of IsItem >>= (λ items. pure (selection.List items)))

-- ---- windows

-- number [ unit ], in ticks
abbrev pub IsLength : ℕ → Rule ℕ
IsLength least = do
  n ← one (number_from least)
  ticks ← optional (one (ticks_of n))
  pure (or_else n ticks)

-- RANGE ( UNBOUNDED | length [ SLIDE length ] )
abbrev pub IsRange : Rule WrittenWindow
IsRange = word k.Range >> either (word k.Unbounded >> pure window.Unbounded) (do
  length ← IsLength 0
  slide ← optional (word k.Slide >> IsLength 1)
  pure (window.Range length (or_else 1 slide)))

-- ROWS ( UNBOUNDED | number [ SLIDE number ] )
abbrev pub IsRows : Rule WrittenWindow
IsRows = word k.Rows >> either (word k.Unbounded >> pure window.Unbounded) (do
  count ← one (number_from 1)
  slide ← optional (word k.Slide >> one (number_from 1))
  pure (window.Rows count (or_else 1 slide)))

-- PARTITION BY name { "," name } ROWS number
abbrev pub IsPartition : Rule WrittenWindow
IsPartition = do
  word k.Partition
  word k.By
  columns ← list_of IsName
  word k.Rows
  count ← one (number_from 1)
  pure (window.Partition columns count)

abbrev pub IsWindow : Rule WrittenWindow
IsWindow =
    either (word k.Now >> pure (window.Range 0 1))
    (either (word k.Unbounded >> pure window.Unbounded)
    (either IsRange
    (either IsRows IsPartition)))

-- ---- blocks

-- name [ "." name ] [ "[" window "]" ] [ [ AS ] name ]
abbrev pub IsInput : Rule Input
IsInput = do
  stream ← IsColumn
  window ← optional (do
    word k.OpenSquare
    w ← IsWindow
    word k.CloseSquare
    pure w)
  alias ← optional (may k.As >> IsName)
  pure (record { stream = stream; window = or_unbounded window; alias = alias })

-- input [ "," input [ "," input ] ]
abbrev pub IsInputs : Rule (List Input)
IsInputs = do
  first ← IsInput
  further ← optional (do
    second ← word k.Comma >> IsInput
    third ← optional (word k.Comma >> IsInput)
    pure (second ∷ to_list third))
  pure (first ∷ or_empty further)

-- FROM inputs [ WHERE condition ] [ GROUP BY column { "," column } ], of a block that shows this
abbrev pub IsRest : Bool → Selection → Rule SelectBlock
IsRest distinct selection = do
  word k.From
  inputs ← IsInputs
  condition ← optional (word k.Where >> IsCondition most_levels)
  groups ← optional (word k.Group >> (word k.By >> list_of IsColumn))
  pure (record { distinct = distinct; selection = selection; inputs = inputs; condition = condition; groups = or_empty groups })

-- what follows SELECT in a block: [ DISTINCT ] items rest
abbrev pub IsSelected : Rule SelectBlock
IsSelected = do
  distinct ← may k.Distinct
  selection ← IsSelection
  IsRest distinct selection

-- SELECT [ DISTINCT ] items rest
abbrev pub IsBlock : Rule SelectBlock
IsBlock = word k.Select >> IsSelected

-- ( UNION | EXCEPT ) ALL block
abbrev pub IsSecond : Rule Second
IsSecond = do
  operator ← one set_operator_of
  word k.All
  block ← IsBlock
  pure (record { operator = operator; block = block })

-- ---- queries

abbrev pub query_of : Option StreamOperator → SelectBlock → Option Second → Query
query_of output first second = record { output = output; first = first; second = second }

-- streamop "(" block [ setop block ] ")"
abbrev pub IsOuter : Rule Query
IsOuter = do
  output ← one stream_operator_of
  word k.Open
  first ← IsBlock
  second ← optional IsSecond
  word k.Close
  pure (query_of (Some output) first second)

-- what follows SELECT in the inner form: streamop "(" [ DISTINCT ] items ")" rest
abbrev pub IsInner : Rule Query
IsInner = do
  output ← one stream_operator_of
  word k.Open
  distinct ← may k.Distinct
  selection ← IsSelection
  word k.Close
  block ← IsRest distinct selection
  pure (query_of (Some output) block None)

-- what follows SELECT in a query with no stream operator: [ DISTINCT ] items rest [ setop block ]
abbrev pub IsWhole : Rule Query
IsWhole = do
  first ← IsSelected
  second ← optional IsSecond
  pure (query_of None first second)

-- ( outer | SELECT ( inner | whole ) ) [ ";" ]
abbrev pub IsQuery : Rule Query
IsQuery = do
  query ← either IsOuter (word k.Select >> either IsInner IsWhole)
  may k.Semicolon
  pure query

-- ---- tokens

-- the tokens are a query
abbrev pub Spells : Tokens → Query → Type 0
Spells ts q = IsQuery ts q []

-- some query begins with the tokens
abbrev pub CanBegin : Tokens → Type 0
CanBegin front = (more : Tokens) × (q : Query) × Spells (front ++ more) q
