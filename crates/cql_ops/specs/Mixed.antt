-- An operator that is one of four makes.
use Rattle.cql_plan.specs.declared.node.Node.TheVariants as node
use Rattle.cql_plan.specs.declared.node.OperatorKind.TheVariants.{Distinct, SetOp}
use Rattle.cql_ops.specs.OperatorModel.{OperatorModel}
use Rattle.cql_ops.specs.Settle.{model_as}
use Rattle.cql_ops.specs.declared.mixed.Mixed.{Mixed}
use Rattle.cql_ops.specs.declared.mixed.Mixed.TheVariants as mixed

-- it is seen as the one that it is
abbrev pub mixed_model : {J S : Type 0} → (J → OperatorModel) → (S → OperatorModel) → Mixed J S → OperatorModel
mixed_model join shape (mixed.Join s) = join s
mixed_model join shape (mixed.Shape s) = shape s
mixed_model join shape (mixed.Distinct s) = model_as Distinct (node.Distinct s.node) s
mixed_model join shape (mixed.SetOp s) = model_as SetOp (node.SetOp s.node) s
