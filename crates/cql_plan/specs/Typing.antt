-- What a query means to a caller who may read these streams: its plan, or its first fault.
use Rattle.std.specs.Prelude.{ℕ, suc, Bool, true, false, ◌&&◌, ◌||◌, ◌==◌, not, List, [], ◌∷◌, ◌++◌, length, map, Option, Some, None, Ok}
use Rattle.std.specs.List.{list_all, list_any, zip}
use Rattle.cql_value.specs.declared.schema.ColumnType.{ColumnType}
use Rattle.cql_value.specs.declared.schema.ColumnType.TheVariants.{Number, Text}
use Rattle.cql_value.specs.declared.value.Value.{Value}
use Rattle.cql_value.specs.declared.value.Value.TheVariants as value
use Rattle.cql_syntax.specs.declared.syntax.QualifiedName.{QualifiedName}
use Rattle.cql_syntax.specs.declared.syntax.Constant.{Constant as WrittenConstant}
use Rattle.cql_syntax.specs.declared.syntax.Constant.TheVariants as constant
use Rattle.cql_syntax.specs.declared.syntax.Operation.{Operation}
use Rattle.cql_syntax.specs.declared.syntax.Expression.{Expression, fold-Expression}
use Rattle.cql_syntax.specs.declared.syntax.Expression.TheOpen.{Expression-F}
use Rattle.cql_syntax.specs.declared.syntax.Function.{Function}
use Rattle.cql_syntax.specs.declared.syntax.Function.TheVariants.{Sum, Min, Max}
use Rattle.cql_syntax.specs.declared.syntax.Aggregate.{Aggregate as WrittenAggregate}
use Rattle.cql_syntax.specs.declared.syntax.Aggregate.TheVariants as aggregate
use Rattle.cql_syntax.specs.declared.syntax.Shown.{Shown}
use Rattle.cql_syntax.specs.declared.syntax.Shown.TheVariants as shown
use Rattle.cql_syntax.specs.declared.syntax.Item.{Item as WrittenItem}
use Rattle.cql_syntax.specs.declared.syntax.Selection.{Selection}
use Rattle.cql_syntax.specs.declared.syntax.Selection.TheVariants as selection
use Rattle.cql_syntax.specs.declared.syntax.Operand.{Operand as WrittenOperand}
use Rattle.cql_syntax.specs.declared.syntax.Operand.TheVariants as operand
use Rattle.cql_syntax.specs.declared.syntax.Comparison.{Comparison}
use Rattle.cql_syntax.specs.declared.syntax.Condition.{Condition as WrittenCondition, fold-Condition}
use Rattle.cql_syntax.specs.declared.syntax.Condition.TheOpen.{Condition-F}
use Rattle.cql_syntax.specs.declared.syntax.StreamOperator.{StreamOperator}
use Rattle.cql_syntax.specs.declared.syntax.StreamOperator.TheVariants as stream
use Rattle.cql_syntax.specs.declared.syntax.SetOperator.{SetOperator}
use Rattle.cql_syntax.specs.declared.syntax.SelectBlock.{SelectBlock}
use Rattle.cql_syntax.specs.declared.syntax.Second.{Second}
use Rattle.cql_syntax.specs.declared.syntax.Query.{Query}
pub use Rattle.cql_plan.specs.Fit.{same_kind}
pub use Rattle.cql_window.specs.Once.{once, once_from}
use Rattle.cql_plan.specs.Fit.{is_empty}
use Rattle.cql_plan.specs.declared.error.PlanFault.TheVariants.{AmbiguousColumn, TypeMismatch}
use Rattle.cql_plan.specs.declared.expr.Expr.{Expr, fold-Expr}
use Rattle.cql_plan.specs.declared.expr.Expr.TheOpen.{Expr-F}
use Rattle.cql_plan.specs.declared.expr.Expr.TheVariants as e
use Rattle.cql_plan.specs.declared.condition.Operand.TheVariants as o
use Rattle.cql_plan.specs.declared.condition.Condition.{Condition}
use Rattle.cql_plan.specs.declared.condition.Condition.TheVariants as c
use Rattle.cql_plan.specs.declared.node.Item.{Item}
use Rattle.cql_plan.specs.declared.node.Item.TheVariants as i
use Rattle.cql_plan.specs.declared.node.Node.{Node}
use Rattle.cql_plan.specs.declared.node.Node.TheVariants as node
use Rattle.cql_plan.specs.declared.plan.OutputKind.{OutputKind}
use Rattle.cql_plan.specs.declared.plan.OutputKind.TheVariants.{Istream, Dstream, Rstream, Signed}
use Rattle.cql_plan.specs.declared.plan.Input.{Input}
use Rattle.cql_plan.specs.declared.plan.Planned.{Planned}
use Rattle.cql_plan.specs.declared.row.Field.{Field}
use Rattle.cql_plan.specs.declared.row.FoundColumn.{FoundColumn}
use Rattle.cql_plan.specs.declared.source.BlockInput.{BlockInput}
use Rattle.cql_plan.specs.declared.typed.TypedExpr.{TypedExpr}
use Rattle.cql_plan.specs.declared.typed.TypedOperand.{TypedOperand}
use Rattle.cql_plan.specs.declared.item.TypedItem.{TypedItem}
use Rattle.cql_plan.specs.declared.block.Checked.{Checked}
use Rattle.cql_plan.specs.declared.block.Selected.{Selected}
use Rattle.cql_plan.specs.Outcome.{Outcome, ◌>>=◌, ◌>>◌, unless, each}
use Rattle.cql_plan.specs.Columns.{column_of, kinds_of}
use Rattle.cql_plan.specs.Sources.{SchemaLookup, source_of, are_apart, joined_row, ports_of, inputs_of}

-- ---- types

-- as many types, and the same, column by column
abbrev pub same_kinds : List ColumnType → List ColumnType → Bool
same_kinds left right = (length left == length right) && list_all (λ p. same_kind p.0 p.1) (zip left right)

abbrev pub value_of : WrittenConstant → Value
value_of (constant.Number n) = value.Number n
value_of (constant.Text t) = value.Text t

abbrev pub kind_of : WrittenConstant → ColumnType
kind_of (constant.Number n) = Number
kind_of (constant.Text t) = Text

-- ---- expressions

-- an operation takes two numbers and gives one
abbrev pub operated : Operation → TypedExpr → TypedExpr → Outcome TypedExpr
operated operation left right =
    unless (same_kind left.kind Number && same_kind right.kind Number) TypeMismatch
    >> Ok (record { expr = e.Binary operation left.expr right.expr; kind = Number })

abbrev pub constant_of : WrittenConstant → TypedExpr
constant_of written = record { expr = e.Constant (value_of written); kind = kind_of written }

abbrev pub typed_column : List Field → QualifiedName → Outcome TypedExpr
typed_column fields written = column_of fields written >>= (λ found. Ok (record { expr = e.Column found.column; kind = found.kind }))

-- one level of an expression: its operands from the left, then the operation round them
abbrev pub expression_step : List Field → Expression-F (Outcome TypedExpr) → Outcome TypedExpr
expression_step fields (Expression-F.Constant written) = Ok (constant_of written)
expression_step fields (Expression-F.Column written) = typed_column fields written
expression_step fields (Expression-F.Bracket inner) = inner
expression_step fields (Expression-F.Binary operation left right) = left >>= (λ l. right >>= (λ r. operated operation l r))

-- an expression over these columns, with its type
unfoldable pub expression_of : List Field → Expression → Outcome TypedExpr
expression_of fields = fold-Expression (Outcome TypedExpr) (expression_step fields)

-- ---- conditions

unfoldable pub operand_of : List Field → WrittenOperand → Outcome TypedOperand
operand_of fields (operand.Constant written) = Ok (record { operand = o.Constant (value_of written); kind = kind_of written })
operand_of fields (operand.Column written) = column_of fields written >>= (λ found. Ok (record { operand = o.Column found.column; kind = found.kind }))

-- both sides of a comparison have one type
unfoldable pub comparison_of : List Field → WrittenOperand → Comparison → WrittenOperand → Outcome Condition
comparison_of fields left how right = do
  l ← operand_of fields left
  r ← operand_of fields right
  unless (same_kind l.kind r.kind) TypeMismatch
  Ok (c.Compare l.operand how r.operand)

-- one level of a condition: its parts from the left
abbrev pub condition_step : List Field → Condition-F (Outcome Condition) → Outcome Condition
condition_step fields (Condition-F.Compare left how right) = comparison_of fields left how right
condition_step fields (Condition-F.Not inner) = inner >>= (λ x. Ok (c.Not x))
condition_step fields (Condition-F.Bracket inner) = inner
condition_step fields (Condition-F.And left right) = left >>= (λ l. right >>= (λ r. Ok (c.And l r)))
condition_step fields (Condition-F.Or left right) = left >>= (λ l. right >>= (λ r. Ok (c.Or l r)))

-- a condition on these columns
unfoldable pub condition_of : List Field → WrittenCondition → Outcome Condition
condition_of fields = fold-Condition (Outcome Condition) (condition_step fields)

-- without WHERE every row meets it
unfoldable pub where_of : List Field → Option WrittenCondition → Outcome Condition
where_of fields None = Ok c.Always
where_of fields (Some written) = condition_of fields written

-- ---- items

-- a column by which a block is grouped
abbrev pub group_of : List Field → QualifiedName → Outcome ℕ
group_of fields written = column_of fields written >>= (λ found. Ok found.column)

-- one level of the test whether an expression is one of these columns
abbrev pub among_step : List ℕ → Expr-F Bool → Bool
among_step groups (Expr-F.Column column) = list_any (λ group. group == column) groups
among_step groups (Expr-F.Constant v) = false
among_step groups (Expr-F.Binary operation left right) = false

unfoldable pub is_among : List ℕ → Expr → Bool
is_among groups = fold-Expr Bool (among_step groups)

-- one level of the test whether an expression is a column without brackets
abbrev pub column_step : Expression-F Bool → Bool
column_step (Expression-F.Column written) = true
column_step (Expression-F.Constant written) = false
column_step (Expression-F.Bracket inner) = false
column_step (Expression-F.Binary operation left right) = false

unfoldable pub is_column : Expression → Bool
is_column = fold-Expression Bool column_step

-- an item that is no aggregate, as a grouped block allows it: a column without brackets that GROUP BY names
abbrev pub is_grouped_by : List ℕ → Expression → Expr → Bool
is_grouped_by groups written x = is_column written && is_among groups x

-- SUM takes a number, MIN and MAX take either type
abbrev pub function_of : Function → FoundColumn → Outcome TypedItem
function_of Sum found = unless (same_kind found.kind Number) TypeMismatch >> Ok (record { item = i.Sum found.column; kind = Number })
function_of Min found = Ok (record { item = i.Min found.column; kind = found.kind })
function_of Max found = Ok (record { item = i.Max found.column; kind = found.kind })

unfoldable pub aggregate_of : List Field → WrittenAggregate → Outcome TypedItem
aggregate_of fields aggregate.Count = Ok (record { item = i.Count; kind = Number })
aggregate_of fields (aggregate.Over function written) = column_of fields written >>= (λ found. function_of function found)

-- an item: the faults inside it, then whether a grouped block allows it
unfoldable pub shown_of : List Field → Bool → List ℕ → Shown → Outcome TypedItem
shown_of fields grouped groups (shown.Aggregate written) = aggregate_of fields written
shown_of fields grouped groups (shown.Expression written) = do
  typed ← expression_of fields written
  unless (not grouped || is_grouped_by groups written typed.expr) TypeMismatch
  Ok (record { item = i.Value typed.expr; kind = typed.kind })

abbrev pub item_of : List Field → Bool → List ℕ → WrittenItem → Outcome TypedItem
item_of fields grouped groups item = shown_of fields grouped groups item.shown

-- all columns from this index on
unfoldable pub all_items : ℕ → List Field → List TypedItem
all_items column [] = []
all_items column (field ∷ fields) = record { item = i.Value (e.Column column); kind = field.kind } ∷ all_items (suc column) fields

-- `*` is all columns, and not allowed in a grouped block
unfoldable pub items_of : List Field → Bool → List ℕ → Selection → Outcome (List TypedItem)
items_of fields grouped groups selection.All = unless (not grouped) TypeMismatch >> Ok (all_items 0 fields)
items_of fields grouped groups (selection.List items) = each (item_of fields grouped groups) items

abbrev pub is_aggregate : WrittenItem → Bool
is_aggregate item = elim item.shown [ shown.Aggregate written ↦ true | shown.Expression written ↦ false ]

abbrev pub has_aggregate : Selection → Bool
has_aggregate selection.All = false
has_aggregate (selection.List items) = list_any is_aggregate items

-- a block is grouped if it has GROUP BY or an aggregate
unfoldable pub is_grouped : SelectBlock → Bool
is_grouped block = not (is_empty block.groups) || has_aggregate block.selection

-- ---- blocks

abbrev pub distinct_of : Bool → List ColumnType → Option Node
distinct_of true kinds = Some (node.Distinct kinds)
distinct_of false kinds = None

abbrev pub shown_in : List TypedItem → List Item
shown_in = map (λ typed. typed.item)

abbrev pub kinds_in : List TypedItem → List ColumnType
kinds_in = map (λ typed. typed.kind)

-- what the items show, and what each gives
abbrev pub selected_of : List TypedItem → Selected
selected_of items = record { items = shown_in items; kinds = kinds_in items }

-- the join of the inputs
abbrev pub join_of : List BlockInput → Condition → Node
join_of sources condition = node.Join (record { ports = ports_of sources; condition = condition })

-- the items over the joined row; a column by which it is grouped stands once, however often it is named
abbrev pub shape_of : List Field → List ℕ → List TypedItem → Node
shape_of row groups items = node.Shape (record { columns = kinds_of row; items = shown_in items; groups = once groups })

-- what a block gives that passed its checks: its inputs, its nodes, and the types of its columns
abbrev pub checked_of : Bool → List Input → Node → List Field → List ℕ → List TypedItem → Checked
checked_of distinct inputs join row groups items = record {
  inputs = inputs;
  branch = record { join = join; shape = shape_of row groups items; distinct = distinct_of distinct (kinds_in items) };
  kinds = kinds_in items;
}

-- WHERE, then GROUP BY, then the items, each from the left, over the columns of the inputs
unfoldable pub body_of : List BlockInput → SelectBlock → Outcome Checked
body_of sources block = do
  condition ← where_of (joined_row sources) block.condition
  groups ← each (group_of (joined_row sources)) block.groups
  items ← items_of (joined_row sources) (is_grouped block) groups block.selection
  Ok (checked_of block.distinct (inputs_of sources) (join_of sources condition) (joined_row sources) groups items)

-- a block: its inputs from the left, then their aliases, then the rest
unfoldable pub block_of : SchemaLookup → SelectBlock → Outcome Checked
block_of readable block = do
  sources ← each (source_of readable) block.inputs
  unless (are_apart sources) AmbiguousColumn
  body_of sources block

-- ---- queries

-- without a stream operator the changes are told with their signs
abbrev pub output_of : Option StreamOperator → OutputKind
output_of None = Signed
output_of (Some stream.Istream) = Istream
output_of (Some stream.Dstream) = Dstream
output_of (Some stream.Rstream) = Rstream

-- a query of one block
abbrev pub alone : OutputKind → Checked → Planned
alone output first = record { inputs = first.inputs; first = first.branch; combined = None; output = output }

-- a query of two blocks
abbrev pub combined : OutputKind → SetOperator → Checked → Checked → Planned
combined output operator first second = record {
  inputs = first.inputs ++ second.inputs;
  first = first.branch;
  combined = Some (record { branch = second.branch; set_op = node.SetOp (record { kind = operator; columns = first.kinds }) });
  output = output;
}

-- two blocks have the same number of columns with the same types
unfoldable pub with_second : SchemaLookup → OutputKind → Checked → Option Second → Outcome Planned
with_second readable output first None = Ok (alone output first)
with_second readable output first (Some written) = do
  second ← block_of readable written.block
  unless (same_kinds first.kinds second.kinds) TypeMismatch
  Ok (combined output written.operator first second)

-- The plan of a query, or the first fault: of the first block, then of the second, then of the two together.
unfoldable pub typing : SchemaLookup → Query → Outcome Planned
typing readable query = do
  first ← block_of readable query.first
  with_second readable (output_of query.output) first query.second
