-- What an operator is seen as.
use Rattle.std.specs.Prelude.{ℕ, List, [], Bool, true, slice_index_or, slice_set}
use Rattle.cql_value.specs.declared.schema.ColumnType.{ColumnType}
use Rattle.cql_bag.specs.Bag.{Counts}
use Rattle.cql_bag.specs.Changes.{changed}
use Rattle.cql_bag.specs.declared.change.Change.{Change}
use Rattle.cql_plan.specs.declared.node.Node.{Node}
use Rattle.cql_plan.specs.declared.node.OperatorKind.{OperatorKind}
use Rattle.cql_plan.specs.Node.{kind_of_node, port_count}
use Rattle.cql_algebra.specs.Ports.{port_of, no_rows}

-- its kind, its node with the most rows that a joined bag may have, the bag of each port, the bag that it has told, and whether it was started and had no error since
pub record OperatorModel : Type 0 where
  pub kind : OperatorKind
  pub node : Node
  pub limit : ℕ
  pub ports : List Counts
  pub told : Counts
  pub running : Bool

-- after a start: no port has a row, and none is told
abbrev pub started : Node → ℕ → OperatorModel
started node limit = record { kind = kind_of_node node; node = node; limit = limit; ports = no_rows (port_count node); told = []; running = true }

-- after a push: one port's bag is changed
abbrev pub pushed : ℕ → Change → OperatorModel → OperatorModel
pushed port c s = record s { ports = slice_set s.ports port (changed c (port_of s.ports port)) }

-- the columns of a port
abbrev pub columns_at : List (List ColumnType) → ℕ → List ColumnType
columns_at ports i = slice_index_or ports i []
