-- What every plan keeps.
use Rattle.std.specs.Prelude.{◌≡◌, ◌≤◌, [], ◌∷◌, length, Option, Some, None, IfSome}
use Rattle.cql_plan.specs.declared.node.Node.{Node}
use Rattle.cql_plan.specs.declared.node.OperatorKind.TheVariants.{Join, Shape, Distinct, SetOp}
use Rattle.cql_plan.specs.declared.plan.Branch.{Branch}
use Rattle.cql_plan.specs.declared.plan.Combined.{Combined}
use Rattle.cql_plan.specs.declared.plan.Planned.{Planned}
use Rattle.cql_plan.specs.Node.{kind_of_node, port_columns, result_columns, IsTypedNode, Feeds}
use Rattle.cql_plan.specs.Ports.{ports, HavePorts}

-- 1 to 6 inputs
abbrev pub IsFew : Planned → Type 0
IsFew p = (1 ≤ length p.inputs) × (length p.inputs ≤ 6)

-- the node whose rows a block gives
abbrev pub last_of : Node → Option Node → Node
last_of shape None = shape
last_of shape (Some distinct) = distinct

-- the node whose rows a block gives
abbrev pub last_node : Branch → Node
last_node b = last_of b.shape b.distinct

-- a block: a join whose condition fits its columns, then items over the joined row, then with DISTINCT each of their rows once
pub record IsBlock (b : Branch) : Type 0 where
  pub join : kind_of_node b.join ≡ Join
  pub shape : kind_of_node b.shape ≡ Shape
  pub condition : IsTypedNode b.join
  pub items : IsTypedNode b.shape
  pub joined : Feeds b.join b.shape
  pub distinct : IfSome b.distinct (λ d. (kind_of_node d ≡ Distinct) × Feeds b.shape d)

-- a second block, and a set operation on what both blocks give
pub record IsCombined (first : Branch) (c : Combined) : Type 0 where
  pub block : IsBlock c.branch
  pub kind : kind_of_node c.set_op ≡ SetOp
  pub columns : port_columns c.set_op ≡ result_columns (last_node first) ∷ result_columns (last_node c.branch) ∷ []

-- a plan: each input stands beside a port of a join
pub record IsPlan (p : Planned) : Type 0 where
  pub few : IsFew p
  pub ports : HavePorts p.inputs (ports p)
  pub first : IsBlock p.first
  pub combined : IfSome p.combined (IsCombined p.first)
