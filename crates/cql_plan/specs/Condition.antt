-- When a row meets a condition.
use Rattle.std.specs.Prelude.{List, Option, Some, None, Bool, true, false, not, ◌&&◌, ◌||◌, slice_get}
use Rattle.std.specs.declared.cmp.Ordering.{Ordering}
use Rattle.std.specs.Ordering.{is_eq, is_lt, is_gt}
use Rattle.cql_value.specs.Order.{value_cmp}
use Rattle.cql_value.specs.declared.value.Value.{Value}
use Rattle.cql_syntax.specs.declared.syntax.Comparison.{Comparison}
use Rattle.cql_syntax.specs.declared.syntax.Comparison.TheVariants.{Equal, Unequal, Less, LessOrEqual, Greater, GreaterOrEqual}
use Rattle.cql_plan.specs.declared.condition.Operand.{Operand}
use Rattle.cql_plan.specs.declared.condition.Operand.TheVariants.{Column, Constant}
use Rattle.cql_plan.specs.declared.condition.Condition.{Condition, fold-Condition}
use Rattle.cql_plan.specs.declared.condition.Condition.TheOpen.{Condition-F}

abbrev pub compares : Comparison → Ordering → Bool
compares Equal r = is_eq r
compares Unequal r = not (is_eq r)
compares Less r = is_lt r
compares LessOrEqual r = not (is_gt r)
compares Greater r = is_gt r
compares GreaterOrEqual r = not (is_lt r)

abbrev pub operand_value : List Value → Operand → Option Value
operand_value row (Column at) = slice_get row at
operand_value row (Constant v) = Some v

-- two values compare so; a column that is missing compares in no way
abbrev pub compared : Comparison → Option Value → Option Value → Bool
compared c None y = false
compared c (Some a) None = false
compared c (Some a) (Some b) = compares c (value_cmp a b)

-- one level of a condition, with whether its parts hold
abbrev pub condition_step : List Value → Condition-F Bool → Bool
condition_step row Condition-F.Always = true
condition_step row (Condition-F.Compare l c r) = compared c (operand_value row l) (operand_value row r)
condition_step row (Condition-F.Not b) = not b
condition_step row (Condition-F.And a b) = a && b
condition_step row (Condition-F.Or a b) = a || b

-- whether a row meets a condition
unfoldable pub holds : List Value → Condition → Bool
holds row = fold-Condition Bool (condition_step row)
