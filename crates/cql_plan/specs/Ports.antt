-- The inputs of a plan beside the ports of its joins.
use Rattle.std.specs.Prelude.{◌≡◌, ℕ, suc, List, [], ◌∷◌, ◌++◌, Option, Some, None}
use Rattle.std.specs.List.{AllByRecursion, Contains}
use Rattle.cql_value.specs.declared.schema.ColumnType.{ColumnType}
use Rattle.cql_window.specs.declared.window.Window.{Window}
use Rattle.cql_window.specs.declared.window.Window.TheVariants.{Range, Rows, All as all, Parts}
use Rattle.cql_plan.specs.declared.condition.Condition.TheVariants.{Always}
use Rattle.cql_plan.specs.declared.expr.Expr.TheVariants.{Column as column}
use Rattle.cql_plan.specs.declared.node.Item.{Item}
use Rattle.cql_plan.specs.declared.node.Item.TheVariants.{Value as value}
use Rattle.cql_plan.specs.declared.node.Node.{Node}
use Rattle.cql_plan.specs.declared.node.Node.TheVariants as node
use Rattle.cql_plan.specs.declared.plan.Combined.{Combined}
use Rattle.cql_plan.specs.declared.plan.Input.{Input}
use Rattle.cql_plan.specs.declared.plan.Planned.{Planned}

-- the ports of a join: of each input the types of its columns
abbrev pub ports_in : Node → List (List ColumnType)
ports_in (node.Join j) = j.ports
ports_in (node.Shape s) = []
ports_in (node.Distinct c) = []
ports_in (node.SetOp s) = []

abbrev pub later_ports : Option Combined → List (List ColumnType)
later_ports None = []
later_ports (Some combined) = ports_in combined.branch.join

-- the ports of both blocks, in order
abbrev pub ports : Planned → List (List ColumnType)
ports p = ports_in p.first.join ++ later_ports p.combined

-- a window over whole rows parts by some of these columns
abbrev pub PartsAmong : List ℕ → Window → Type 0
PartsAmong projection (Range len slide) = Unit {0}
PartsAmong projection (Rows count slide) = Unit {0}
PartsAmong projection all = Unit {0}
PartsAmong projection (Parts columns count) = AllByRecursion (Contains projection) columns

-- each input stands beside a port, and parts by columns of its own
abbrev pub HavePorts : List Input → List (List ColumnType) → Type 0
HavePorts [] [] = Unit {0}
HavePorts [] (c ∷ cs) = ⊥
HavePorts (i ∷ is) [] = ⊥
HavePorts (i ∷ is) (c ∷ cs) = PartsAmong i.projection i.window × HavePorts is cs

-- ---- plans that show what one input's window holds

-- the columns of a row, from this index on
abbrev pub columns_from : ℕ → List ColumnType → List Item
columns_from index [] = []
columns_from index (t ∷ types) = value (column index) ∷ columns_from (suc index) types

-- one block over one input, which shows all columns of all its rows
pub record IsPlain (p : Planned) : Type 0 where
  pub columns : List ColumnType
  pub join : p.first.join ≡ node.Join (record { ports = columns ∷ []; condition = Always })
  pub shape : p.first.shape ≡ node.Shape (record { columns = columns; items = columns_from 0 columns; groups = [] })
  pub distinct : p.first.distinct ≡ None
  pub combined : p.combined ≡ None
