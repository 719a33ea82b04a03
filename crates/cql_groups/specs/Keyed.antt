-- Shapes that are kept by their groups.
use Rattle.std.specs.Prelude.{◌≡◌, ◌≢◌, ◌⊎◌, ℕ, List, [], false}
use Rattle.std.specs.List.{AllByRecursion, Contains}
use Rattle.cql_value.specs.declared.schema.ColumnType.{ColumnType}
use Rattle.cql_plan.specs.declared.expr.Expr.TheVariants as expr
use Rattle.cql_plan.specs.declared.node.Item.{Item}
use Rattle.cql_plan.specs.declared.node.Item.TheVariants as i
use Rattle.cql_plan.specs.declared.node.Shape.{Shape}
use Rattle.cql_plan.specs.Fit.{HasColumn}
use Rattle.cql_algebra.specs.Shape.{is_count, all_are}

-- an item of a shape with these grouped columns: one of them, COUNT(*), SUM, or MIN or MAX of a column
abbrev pub IsKeyedItem : List ColumnType → List ℕ → Item → Type 0
IsKeyedItem columns groups (i.Value x) = (at : ℕ) × (x ≡ expr.Column at) × Contains groups at
IsKeyedItem columns groups i.Count = Unit {0}
IsKeyedItem columns groups (i.Sum at) = Unit {0}
IsKeyedItem columns groups (i.Min at) = HasColumn columns at
IsKeyedItem columns groups (i.Max at) = HasColumn columns at

-- Its groups are those of its keys. Without grouped columns that is the whole, of the empty key: of no rows there is none, unless all items are COUNT(*).
pub record IsKeyed (shape : Shape) : Type 0 where
  pub some : (shape.groups ≢ []) ⊎ (all_are is_count shape.items ≡ false)
  pub groups : AllByRecursion (HasColumn shape.columns) shape.groups
  pub items : AllByRecursion (IsKeyedItem shape.columns shape.groups) shape.items
