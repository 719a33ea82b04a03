-- The canonical spelling of a query.
use Rattle.std.specs.Prelude.{ℕ, suc, ℤ, pos, negsuc, List, [], ◌∷◌, ◌++◌, Option, Some, None, if◌then◌else◌, ◌==◌, ◌&&◌, not, Bool, true, false, codes}
use Rattle.std.specs.Fmt.{signed_decimal}
use Rattle.cql_syntax.specs.declared.token.Fixed.{Fixed}
use Rattle.cql_syntax.specs.declared.token.Fixed.TheVariants as k
use Rattle.cql_syntax.specs.declared.token.Token.TheVariants as t
use Rattle.cql_syntax.specs.declared.syntax.QualifiedName.{QualifiedName}
use Rattle.cql_syntax.specs.declared.syntax.Constant.{Constant}
use Rattle.cql_syntax.specs.declared.syntax.Constant.TheVariants as constant
use Rattle.cql_syntax.specs.declared.syntax.Operation.{Operation}
use Rattle.cql_syntax.specs.declared.syntax.Operation.TheVariants.{Add, Subtract, Multiply}
use Rattle.cql_syntax.specs.declared.syntax.Expression.{Expression, fold-Expression}
use Rattle.cql_syntax.specs.declared.syntax.Expression.TheOpen.{Expression-F}
use Rattle.cql_syntax.specs.declared.syntax.Function.{Function}
use Rattle.cql_syntax.specs.declared.syntax.Function.TheVariants.{Sum, Min, Max}
use Rattle.cql_syntax.specs.declared.syntax.Aggregate.{Aggregate}
use Rattle.cql_syntax.specs.declared.syntax.Aggregate.TheVariants.{Count, Over}
use Rattle.cql_syntax.specs.declared.syntax.Shown.{Shown}
use Rattle.cql_syntax.specs.declared.syntax.Shown.TheVariants as shown
use Rattle.cql_syntax.specs.declared.syntax.Item.{Item}
use Rattle.cql_syntax.specs.declared.syntax.Selection.{Selection}
use Rattle.cql_syntax.specs.declared.syntax.Selection.TheVariants as selection
use Rattle.cql_syntax.specs.declared.syntax.Operand.{Operand}
use Rattle.cql_syntax.specs.declared.syntax.Operand.TheVariants as operand
use Rattle.cql_syntax.specs.declared.syntax.Comparison.{Comparison}
use Rattle.cql_syntax.specs.declared.syntax.Comparison.TheVariants as comparison
use Rattle.cql_syntax.specs.declared.syntax.Condition.{Condition, fold-Condition}
use Rattle.cql_syntax.specs.declared.syntax.Condition.TheOpen.{Condition-F}
use Rattle.cql_syntax.specs.declared.syntax.WrittenWindow.{WrittenWindow}
use Rattle.cql_syntax.specs.declared.syntax.WrittenWindow.TheVariants as window
use Rattle.cql_syntax.specs.declared.syntax.Input.{Input}
use Rattle.cql_syntax.specs.declared.syntax.SelectBlock.{SelectBlock}
use Rattle.cql_syntax.specs.declared.syntax.SetOperator.{SetOperator}
use Rattle.cql_syntax.specs.declared.syntax.SetOperator.TheVariants.{UnionAll, ExceptAll}
use Rattle.cql_syntax.specs.declared.syntax.Second.{Second}
use Rattle.cql_syntax.specs.declared.syntax.StreamOperator.{StreamOperator}
use Rattle.cql_syntax.specs.declared.syntax.StreamOperator.TheVariants.{Istream, Dstream, Rstream}
use Rattle.cql_syntax.specs.declared.syntax.Query.{Query}
use Rattle.cql_syntax.specs.Tokens.{Tokens}
use Rattle.cql_syntax.specs.Lex.{Bytes}

-- a piece of a spelling, in which no space stands
pub data Piece : Type 0 where
  -- a word or sign
  symbol : Fixed → Piece
  -- a stream operator or an aggregate, and the bracket that it opens
  call : Fixed → Piece
  name : Bytes → Piece
  -- a number with its own sign
  number : ℤ → Piece
  text : Bytes → Piece

abbrev pub Pieces : Type 0
Pieces = List Piece

-- ---- as tokens

abbrev pub number_tokens : ℤ → Tokens
number_tokens (pos n) = t.Number n ∷ []
number_tokens (negsuc n) = t.Fixed k.Minus ∷ t.Number (suc n) ∷ []

abbrev pub piece_tokens : Piece → Tokens
piece_tokens (symbol j) = t.Fixed j ∷ []
piece_tokens (call j) = t.Fixed j ∷ t.Fixed k.Open ∷ []
piece_tokens (name s) = t.Word s ∷ []
piece_tokens (number z) = number_tokens z
piece_tokens (text s) = t.Text s ∷ []

abbrev pub pieces_tokens : Pieces → Tokens
pieces_tokens [] = []
pieces_tokens (p ∷ ps) = piece_tokens p ++ pieces_tokens ps

-- ---- as bytes

-- what is quoted, each quote twice, and the closing quote
abbrev pub doubled : Bytes → Bytes
doubled [] = 39 ∷ []
doubled (b ∷ z) = if b == 39 then 39 ∷ 39 ∷ doubled z else b ∷ doubled z

unfoldable pub symbol_text : Fixed → Bytes
symbol_text k.All = codes "ALL"
symbol_text k.And = codes "AND"
symbol_text k.As = codes "AS"
symbol_text k.By = codes "BY"
symbol_text k.Count = codes "COUNT"
symbol_text k.Distinct = codes "DISTINCT"
symbol_text k.Dstream = codes "DSTREAM"
symbol_text k.Except = codes "EXCEPT"
symbol_text k.From = codes "FROM"
symbol_text k.Group = codes "GROUP"
symbol_text k.Istream = codes "ISTREAM"
symbol_text k.Max = codes "MAX"
symbol_text k.Min = codes "MIN"
symbol_text k.Not = codes "NOT"
symbol_text k.Now = codes "NOW"
symbol_text k.Or = codes "OR"
symbol_text k.Partition = codes "PARTITION"
symbol_text k.Range = codes "RANGE"
symbol_text k.Rows = codes "ROWS"
symbol_text k.Rstream = codes "RSTREAM"
symbol_text k.Select = codes "SELECT"
symbol_text k.Slide = codes "SLIDE"
symbol_text k.Sum = codes "SUM"
symbol_text k.Unbounded = codes "UNBOUNDED"
symbol_text k.Union = codes "UNION"
symbol_text k.Where = codes "WHERE"
symbol_text k.Open = codes "("
symbol_text k.Close = codes ")"
symbol_text k.OpenSquare = codes "["
symbol_text k.CloseSquare = codes "]"
symbol_text k.Comma = codes ","
symbol_text k.Dot = codes "."
symbol_text k.Semicolon = codes ";"
symbol_text k.Star = codes "*"
symbol_text k.Plus = codes "+"
symbol_text k.Minus = codes "-"
symbol_text k.Equal = codes "="
symbol_text k.Unequal = codes "<>"
symbol_text k.Less = codes "<"
symbol_text k.LessOrEqual = codes "<="
symbol_text k.Greater = codes ">"
symbol_text k.GreaterOrEqual = codes ">="

abbrev pub piece_text : Piece → Bytes
piece_text (symbol j) = symbol_text j
piece_text (call j) = symbol_text j ++ codes "("
piece_text (name s) = s
piece_text (number z) = signed_decimal z
piece_text (text s) = 39 ∷ doubled s

-- no space stands before these
unfoldable pub is_tight : Fixed → Bool
is_tight k.Close = true
is_tight k.CloseSquare = true
is_tight k.Comma = true
is_tight k.Dot = true
is_tight _ = false

-- no space stands behind these
unfoldable pub is_opening : Fixed → Bool
is_opening k.Open = true
is_opening k.OpenSquare = true
is_opening k.Dot = true
is_opening _ = false

abbrev pub takes_space : Piece → Bool
takes_space (symbol j) = not (is_tight j)
takes_space (call j) = true
takes_space (name s) = true
takes_space (number z) = true
takes_space (text s) = true

abbrev pub leaves_space : Piece → Bool
leaves_space (symbol j) = not (is_opening j)
leaves_space (call j) = false
leaves_space (name s) = true
leaves_space (number z) = true
leaves_space (text s) = true

abbrev pub space : Bool → Bytes
space true = 32 ∷ []
space false = []

-- the pieces one after another, where `due` says that a space stands before the first, unless it takes none
abbrev pub spelled : Bool → Pieces → Bytes
spelled due [] = []
spelled due (p ∷ ps) = space (due && takes_space p) ++ piece_text p ++ spelled (leaves_space p) ps

-- ---- the pieces of a query

abbrev pub qualified_pieces : Option Bytes → Bytes → Pieces
qualified_pieces None s = name s ∷ []
qualified_pieces (Some q) s = name q ∷ symbol k.Dot ∷ name s ∷ []

abbrev pub spell_name : QualifiedName → Pieces
spell_name q = qualified_pieces q.qualifier q.name

abbrev pub spell_constant : Constant → Pieces
spell_constant (constant.Number z) = number z ∷ []
spell_constant (constant.Text s) = text s ∷ []

-- f of each, with commas between
abbrev pub following : {A : Type 0} → (A → Pieces) → List A → Pieces
following f [] = []
following f (x ∷ xs) = symbol k.Comma ∷ (f x ++ following f xs)

abbrev pub separated : {A : Type 0} → (A → Pieces) → List A → Pieces
separated f [] = []
separated f (x ∷ xs) = f x ++ following f xs

abbrev pub operation_sign : Operation → Fixed
operation_sign Add = k.Plus
operation_sign Subtract = k.Minus
operation_sign Multiply = k.Star

-- one level of an expression, with the pieces of its parts
abbrev pub expression_level : Expression-F Pieces → Pieces
expression_level (Expression-F.Constant c) = spell_constant c
expression_level (Expression-F.Column q) = spell_name q
expression_level (Expression-F.Bracket x) = symbol k.Open ∷ (x ++ symbol k.Close ∷ [])
expression_level (Expression-F.Binary op x y) = x ++ symbol (operation_sign op) ∷ y

unfoldable pub spell_expression : Expression → Pieces
spell_expression = fold-Expression Pieces expression_level

abbrev pub spell_operand : Operand → Pieces
spell_operand (operand.Constant c) = spell_constant c
spell_operand (operand.Column q) = spell_name q

abbrev pub comparison_sign : Comparison → Fixed
comparison_sign comparison.Equal = k.Equal
comparison_sign comparison.Unequal = k.Unequal
comparison_sign comparison.Less = k.Less
comparison_sign comparison.LessOrEqual = k.LessOrEqual
comparison_sign comparison.Greater = k.Greater
comparison_sign comparison.GreaterOrEqual = k.GreaterOrEqual

-- one level of a condition, with the pieces of its parts
abbrev pub condition_level : Condition-F Pieces → Pieces
condition_level (Condition-F.Compare a op b) = spell_operand a ++ symbol (comparison_sign op) ∷ spell_operand b
condition_level (Condition-F.Not x) = symbol k.Not ∷ x
condition_level (Condition-F.Bracket x) = symbol k.Open ∷ (x ++ symbol k.Close ∷ [])
condition_level (Condition-F.And x y) = x ++ symbol k.And ∷ y
condition_level (Condition-F.Or x y) = x ++ symbol k.Or ∷ y

unfoldable pub spell_condition : Condition → Pieces
spell_condition = fold-Condition Pieces condition_level

abbrev pub function_word : Function → Fixed
function_word Sum = k.Sum
function_word Min = k.Min
function_word Max = k.Max

abbrev pub spell_aggregate : Aggregate → Pieces
spell_aggregate Count = call k.Count ∷ symbol k.Star ∷ symbol k.Close ∷ []
spell_aggregate (Over f q) = call (function_word f) ∷ (spell_name q ++ symbol k.Close ∷ [])

abbrev pub spell_shown : Shown → Pieces
spell_shown (shown.Expression x) = spell_expression x
spell_shown (shown.Aggregate a) = spell_aggregate a

abbrev pub spell_alias : Option Bytes → Pieces
spell_alias None = []
spell_alias (Some s) = symbol k.As ∷ name s ∷ []

unfoldable pub spell_item : Item → Pieces
spell_item item = spell_shown item.shown ++ spell_alias item.alias

abbrev pub spell_selection : Selection → Pieces
spell_selection selection.All = symbol k.Star ∷ []
spell_selection (selection.List items) = separated spell_item items

-- no slide where it is 1
abbrev pub spell_slide : ℕ → Pieces
spell_slide n = if n == 1 then [] else symbol k.Slide ∷ number (pos n) ∷ []

abbrev pub spell_range : Bool → ℕ → ℕ → Pieces
spell_range true length slide = symbol k.Now ∷ []
spell_range false length slide = symbol k.Range ∷ number (pos length) ∷ spell_slide slide

abbrev pub spell_plain : Bytes → Pieces
spell_plain s = name s ∷ []

abbrev pub spell_partition : List Bytes → ℕ → Pieces
spell_partition columns count = symbol k.Partition ∷ symbol k.By ∷ (separated spell_plain columns ++ symbol k.Rows ∷ number (pos count) ∷ [])

unfoldable pub spell_window : WrittenWindow → Pieces
spell_window (window.Range length slide) = spell_range (length == 0 && slide == 1) length slide
spell_window (window.Rows count slide) = symbol k.Rows ∷ number (pos count) ∷ spell_slide slide
spell_window window.Unbounded = symbol k.Range ∷ symbol k.Unbounded ∷ []
spell_window (window.Partition columns count) = spell_partition columns count

unfoldable pub spell_input : Input → Pieces
spell_input i = spell_name i.stream ++ symbol k.OpenSquare ∷ (spell_window i.window ++ symbol k.CloseSquare ∷ spell_alias i.alias)

abbrev pub spell_where : Option Condition → Pieces
spell_where None = []
spell_where (Some c) = symbol k.Where ∷ spell_condition c

abbrev pub spell_groups : List QualifiedName → Pieces
spell_groups [] = []
spell_groups (q ∷ qs) = symbol k.Group ∷ symbol k.By ∷ separated spell_name (q ∷ qs)

abbrev pub spell_distinct : Bool → Pieces
spell_distinct true = symbol k.Distinct ∷ []
spell_distinct false = []

unfoldable pub spell_block : SelectBlock → Pieces
spell_block b = symbol k.Select ∷ (spell_distinct b.distinct ++ (spell_selection b.selection ++ symbol k.From ∷ (separated spell_input b.inputs ++ (spell_where b.condition ++ spell_groups b.groups))))

abbrev pub set_word : SetOperator → Fixed
set_word UnionAll = k.Union
set_word ExceptAll = k.Except

abbrev pub spell_second : Option Second → Pieces
spell_second None = []
spell_second (Some s) = symbol (set_word s.operator) ∷ symbol k.All ∷ spell_block s.block

abbrev pub stream_word : StreamOperator → Fixed
stream_word Istream = k.Istream
stream_word Dstream = k.Dstream
stream_word Rstream = k.Rstream

abbrev pub spell_output : Option StreamOperator → Pieces → Pieces
spell_output None blocks = blocks
spell_output (Some o) blocks = call (stream_word o) ∷ (blocks ++ symbol k.Close ∷ [])

abbrev pub spell_blocks : Query → Pieces
spell_blocks q = spell_block q.first ++ spell_second q.second

-- the form with the stream operator round all, where there is one
abbrev pub spell_query : Query → Pieces
spell_query q = spell_output q.output (spell_blocks q)

-- the canonical spelling
unfoldable pub canonical : Query → Bytes
canonical q = spelled false (spell_query q)

-- ---- for the printer

pub record Printed : Type 0 where
  pub text : Bytes
  pub due : Bool

-- what was printed, and one more piece
unfoldable pub put : Printed → Piece → Printed
put p x = record { text = p.text ++ space (p.due && takes_space x) ++ piece_text x; due = leaves_space x }

abbrev pub put_all : Printed → Pieces → Printed
put_all p [] = p
put_all p (x ∷ xs) = put_all (put p x) xs

abbrev pub nothing : Printed
nothing = record { text = []; due = false }
