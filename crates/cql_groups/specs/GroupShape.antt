-- A shape's operator that keeps groups, or is as the plain one.
use Rattle.std.specs.Prelude.{◌≡◌, Option, None, if◌then◌else◌}
use Rattle.cql_plan.specs.declared.fault.Fault.{Fault}
use Rattle.cql_plan.specs.declared.node.OperatorKind.TheVariants.{Shape}
use Rattle.cql_ops.specs.Clauses.{model_value, fault_in}
use Rattle.cql_ops.specs.OperatorModel.{OperatorModel}
use Rattle.cql_groups.specs.declared.group_shape.EitherShape.{EitherShape}
use Rattle.cql_groups.specs.declared.group_shape.EitherShape.TheVariants.{Plain, Keyed}

-- it is seen as the one that it is
abbrev pub way_model : EitherShape → OperatorModel
way_model (Plain s) = record s { kind = Shape }
way_model (Keyed s) = record s { kind = Shape }

-- while it runs, the fault that its value is
abbrev pub known_fault : OperatorModel → Option Fault
known_fault s = if s.running then fault_in (model_value s) else None

-- of kept groups just that fault is known
abbrev pub KnowsFault : EitherShape → Option Fault → Type 0
KnowsFault (Plain s) f = Unit {0}
KnowsFault (Keyed s) f = f ≡ known_fault s
