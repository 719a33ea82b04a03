-- Expressions, conditions and shapes that fit columns of given types.
use Rattle.std.specs.Prelude.{◌≡◌, ℕ, List, [], ◌∷◌, ◌++◌, Option, Some, None, Bool, true, false, not, ◌&&◌, ◌||◌, slice_get}
use Rattle.std.specs.List.{AllByRecursion, Contains, list_any}
pub use Rattle.cql_value.specs.Schema.{type_of}
use Rattle.cql_value.specs.declared.schema.ColumnType.{ColumnType}
use Rattle.cql_value.specs.declared.schema.ColumnType.TheVariants.{Number, Text}
use Rattle.cql_plan.specs.declared.condition.Operand.{Operand}
use Rattle.cql_plan.specs.declared.condition.Operand.TheVariants as operand
use Rattle.cql_plan.specs.declared.condition.Condition.{Condition, fold-Condition}
use Rattle.cql_plan.specs.declared.condition.Condition.TheOpen.{Condition-F}
use Rattle.cql_plan.specs.declared.expr.Expr.{Expr, fold-Expr}
use Rattle.cql_plan.specs.declared.expr.Expr.TheOpen.{Expr-F}
use Rattle.cql_plan.specs.declared.expr.Expr.TheVariants as expr
use Rattle.cql_plan.specs.declared.node.Shape.{Shape}
use Rattle.cql_plan.specs.declared.node.Item.{Item}
use Rattle.cql_plan.specs.declared.node.Item.TheVariants as i

-- two types are one
abbrev pub same_kind : ColumnType → ColumnType → Bool
same_kind Number Number = true
same_kind Number Text = false
same_kind Text Number = false
same_kind Text Text = true

-- ---- expressions

-- operations take numbers
abbrev pub number_type : Option ColumnType → Option ColumnType → Option ColumnType
number_type None b = None
number_type (Some Text) b = None
number_type (Some Number) None = None
number_type (Some Number) (Some Text) = None
number_type (Some Number) (Some Number) = Some Number

-- one level of an expression, with the types of its parts
abbrev pub type_step : List ColumnType → Expr-F (Option ColumnType) → Option ColumnType
type_step columns (Expr-F.Column at) = slice_get columns at
type_step columns (Expr-F.Constant v) = Some (type_of v)
type_step columns (Expr-F.Binary op a b) = number_type a b

-- the type of an expression over columns of these types, if it has one
unfoldable pub expr_type : List ColumnType → Expr → Option ColumnType
expr_type columns = fold-Expr (Option ColumnType) (type_step columns)

-- ---- shapes

abbrev pub is_aggregate : Item → Bool
is_aggregate (i.Value x) = false
is_aggregate _ = true

abbrev pub is_empty : {A : Type 0} → List A → Bool
is_empty [] = true
is_empty (x ∷ xs) = false

-- there are grouped columns, or an aggregate
abbrev pub is_grouped : Shape → Bool
is_grouped shape = not (is_empty shape.groups) || list_any is_aggregate shape.items

abbrev pub HasColumn : List ColumnType → ℕ → Type 0
HasColumn columns at = (t : ColumnType) × (slice_get columns at ≡ Some t)

-- an item over columns of these types: SUM takes numbers, MIN and MAX either type
abbrev pub IsTypedItem : List ColumnType → Item → Type 0
IsTypedItem columns (i.Value x) = (t : ColumnType) × (expr_type columns x ≡ Some t)
IsTypedItem columns i.Count = Unit {0}
IsTypedItem columns (i.Sum at) = slice_get columns at ≡ Some Number
IsTypedItem columns (i.Min at) = HasColumn columns at
IsTypedItem columns (i.Max at) = HasColumn columns at

-- where there are groups, an item that is no aggregate is a grouped column
abbrev pub IsGroupedItem : List ℕ → Item → Type 0
IsGroupedItem groups (i.Value x) = (at : ℕ) × (x ≡ expr.Column at) × Contains groups at
IsGroupedItem groups i.Count = Unit {0}
IsGroupedItem groups (i.Sum at) = Unit {0}
IsGroupedItem groups (i.Min at) = Unit {0}
IsGroupedItem groups (i.Max at) = Unit {0}

-- a shape that fits its columns
pub record IsTyped (shape : Shape) : Type 0 where
  pub items : AllByRecursion (IsTypedItem shape.columns) shape.items
  pub groups : AllByRecursion (HasColumn shape.columns) shape.groups
  pub grouped : is_grouped shape ≡ true → AllByRecursion (IsGroupedItem shape.groups) shape.items

-- ---- conditions

-- the type of an operand over columns of these types, if it has one
abbrev pub operand_type : List ColumnType → Operand → Option ColumnType
operand_type columns (operand.Column at) = slice_get columns at
operand_type columns (operand.Constant v) = Some (type_of v)

-- both are there, and one type
abbrev pub are_one_type : Option ColumnType → Option ColumnType → Bool
are_one_type None b = false
are_one_type (Some a) None = false
are_one_type (Some a) (Some b) = same_kind a b

-- one level of the test of a condition, with that of its parts
abbrev pub condition_step : List ColumnType → Condition-F Bool → Bool
condition_step columns Condition-F.Always = true
condition_step columns (Condition-F.Compare left how right) = are_one_type (operand_type columns left) (operand_type columns right)
condition_step columns (Condition-F.Not part) = part
condition_step columns (Condition-F.And left right) = left && right
condition_step columns (Condition-F.Or left right) = left && right

-- whether each comparison is between two of one type, over columns of these types
unfoldable pub is_typed_condition : List ColumnType → Condition → Bool
is_typed_condition columns = fold-Condition Bool (condition_step columns)

abbrev pub IsTypedCondition : List ColumnType → Condition → Type 0
IsTypedCondition columns condition = is_typed_condition columns condition ≡ true

-- ---- joins

-- the columns of all ports, in order
abbrev pub all_columns : List (List ColumnType) → List ColumnType
all_columns [] = []
all_columns (columns ∷ ports) = columns ++ all_columns ports
