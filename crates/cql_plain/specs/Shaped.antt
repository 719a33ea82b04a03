-- What an operator of a shape keeps, and what it tells.
use Rattle.std.specs.Prelude.{◌≡◌, ◌⊎◌, ◌++◌, List, Bool, true, false, not, Some, None}
use Rattle.cql_bag.specs.Bag.{Counts}
use Rattle.cql_bag.specs.Changes.{changed_by, CanChangeBy}
use Rattle.cql_bag.specs.declared.change.Change.{Change}
use Rattle.cql_plan.specs.declared.node.Node.{Node}
use Rattle.cql_plan.specs.declared.node.Node.TheVariants as node
use Rattle.cql_plan.specs.declared.node.Item.{Item}
use Rattle.cql_plan.specs.declared.node.Shape.{Shape}
use Rattle.cql_plan.specs.Fit.{is_grouped, IsTyped}
use Rattle.cql_plan.specs.Node.{item_types}
use Rattle.cql_algebra.specs.Shape.{items_on, shape_value}
use Rattle.cql_algebra.specs.Typed.{AreOf}
use Rattle.cql_ops.specs.Clauses.{AreChangesOf}
use Rattle.cql_ops.specs.Linear.{turned_changes, how_many, lacks}
use Rattle.cql_ops.specs.declared.error.OpError.{OpError}
use Rattle.cql_ops.specs.declared.error.OpError.TheVariants.{NoMemory, Overflow}
use Rattle.cql_plain.specs.Logs.{logged_bag, IsLog, told_image}
use Rattle.cql_plain.specs.Made.{AreMade}
use Rattle.cql_plain.specs.declared.projected.Projected.{Projected}
use Rattle.cql_plain.specs.declared.plain_shape.Work.{Work}
use Rattle.cql_plain.specs.declared.plain_shape.Work.TheVariants.{Rows, Groups}

-- without groups: a log of the port's changes, of rows of its columns; what the items make of those that are not told; on how many rows of the port some item has no value; and rows that the items made
pub record KeepsRows (shape : Shape) (rows : Projected) : Type 0 where
  pub plain : is_grouped shape ≡ false
  pub is_log : IsLog rows.log
  pub columns : AreChangesOf shape.columns rows.log.untold
  pub untold : rows.untold.items ≡ turned_changes (items_on shape.items) rows.log.untold
  pub lacking : rows.lacking ≡ how_many (lacks shape.items) (logged_bag rows.log)
  pub made : AreMade shape.items rows.made.rows.items

-- a shape without groups
abbrev pub is_plain : Node → Bool
is_plain (node.Shape shape) = not (is_grouped shape)
is_plain (node.Join join) = false
is_plain (node.Distinct columns) = false
is_plain (node.SetOp op) = false

-- with groups: the rows of the port have its columns; and those told have the items' types, where the items fit the columns
pub record KeepsGroups (shape : Shape) (port told : Counts) : Type 0 where
  pub grouped : is_grouped shape ≡ true
  pub in_port : AreOf shape.columns port
  pub in_told : IsTyped shape → AreOf (item_types shape.columns shape.items) told

abbrev pub Keeps : Shape → Work → Type 0
Keeps shape (Rows rows) = KeepsRows shape rows
Keeps shape (Groups port told) = KeepsGroups shape port told

-- the bag of the port
abbrev pub port_in : Work → Counts
port_in (Rows rows) = logged_bag rows.log
port_in (Groups port told) = port

-- the bag that was told
abbrev pub told_in : List Item → Work → Counts
told_in items (Rows rows) = told_image (items_on items) rows.log
told_in items (Groups port told) = told

-- changes that lead to the value of a shape: they take no absent row, and their rows have the items' types
pub record IsShapeTold (shape : Shape) (port told after : Counts) (changes : List Change) : Type 0 where
  pub there : CanChangeBy changes told
  pub leads : after ≡ changed_by changes told
  pub value : shape_value shape port ≡ Some after
  pub columns : IsTyped shape → AreChangesOf (item_types shape.columns shape.items) changes

-- a list grew by such changes
abbrev pub TellsShape : Shape → Counts → Counts → Counts → List Change → List Change → Type 0
TellsShape shape port told after before out = (changes : List Change) × (out ≡ before ++ changes) × IsShapeTold shape port told after changes

-- why it has no value: no memory, or it is outside i64
abbrev pub FailsToShape : Shape → Counts → OpError → Type 0
FailsToShape shape port e = (e ≡ NoMemory) ⊎ ((e ≡ Overflow) × (shape_value shape port ≡ None))
