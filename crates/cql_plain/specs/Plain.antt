-- The plain operators, of which a bench is made.
use Rattle.cql_plan.specs.declared.node.OperatorKind.TheVariants.{Join, Shape}
use Rattle.cql_ops.specs.OperatorModel.{OperatorModel}
use Rattle.cql_ops.specs.Mixed.{mixed_model}
use Rattle.cql_ops.specs.declared.mixed.Mixed.{Mixed}

-- one of the plain operators
abbrev pub plain_model : Mixed OperatorModel OperatorModel → OperatorModel
plain_model = mixed_model (λ s. record s { kind = Join }) (λ s. record s { kind = Shape })
