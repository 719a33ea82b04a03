-- Operators over ports of one column of numbers, or of two.
use Rattle.std.specs.Prelude.{◌≡◌, ℕ, Bool, true, false, List, [], ◌∷◌, length, replicate}
use Rattle.cql_value.specs.Schema.{HasTypes}
use Rattle.cql_value.specs.declared.schema.ColumnType.{ColumnType}
use Rattle.cql_value.specs.declared.schema.ColumnType.TheVariants.{Number}
use Rattle.cql_bag.specs.declared.change.Change.{Change}
use Rattle.cql_plan.specs.declared.node.Node.{Node}
use Rattle.cql_plan.specs.Node.{port_columns}
use Rattle.cql_ops.specs.OperatorModel.{OperatorModel}

-- the columns of a port
abbrev pub columns_of : Bool → List ColumnType
columns_of true = Number ∷ Number ∷ []
columns_of false = Number ∷ []

-- the node of an operator over so many ports
abbrev pub IsOver : ℕ → Bool → Node → Type 0
IsOver ports wide node = port_columns node ≡ replicate ports (columns_of wide)

-- an operator that was started with such a node
pub record HasOver (ports : ℕ) (wide : Bool) (s : OperatorModel) : Type 0 where
  pub columns : port_columns s.node ≡ replicate ports (columns_of wide)
  pub many : length s.ports ≡ ports

-- a row of such columns comes
pub record IsComing (wide : Bool) (c : Change) : Type 0 where
  pub comes : c.plus ≡ true
  pub types : HasTypes (columns_of wide) c.row
