-- What an expression gives on a row.
use Rattle.std.specs.Prelude.{◌^◌, ℤ, pos, negsuc, ◌+ℤ◌, ◌-ℤ◌, ◌*ℤ◌, List, Option, Some, None, Bool, nat_lt, if◌then◌else◌, slice_get}
use Rattle.cql_value.specs.declared.value.Value.{Value}
use Rattle.cql_value.specs.declared.value.Value.TheVariants.{Number, Text}
use Rattle.cql_syntax.specs.declared.syntax.Operation.{Operation}
use Rattle.cql_syntax.specs.declared.syntax.Operation.TheVariants.{Add, Subtract, Multiply}
use Rattle.cql_plan.specs.declared.expr.Expr.{Expr, fold-Expr}
use Rattle.cql_plan.specs.declared.expr.Expr.TheOpen.{Expr-F}

-- the numbers of i64
abbrev pub fits : ℤ → Bool
fits (pos n) = nat_lt n (2 ^ 63)
fits (negsuc n) = nat_lt n (2 ^ 63)

-- the number, unless it is outside i64
abbrev pub within : ℤ → Option Value
within z = if fits z then Some (Number z) else None

-- an operation on two values: none where the number is outside i64 (typing keeps texts away)
abbrev pub arithmetic : Operation → Value → Value → Option Value
arithmetic Add (Number m) (Number n) = within (m +ℤ n)
arithmetic Subtract (Number m) (Number n) = within (m -ℤ n)
arithmetic Multiply (Number m) (Number n) = within (m *ℤ n)
arithmetic op (Text s) b = None
arithmetic op (Number m) (Text t) = None

-- both, unless one is missing
abbrev pub both : {A : Type 0} → (A → A → Option A) → Option A → Option A → Option A
both f None y = None
both f (Some a) None = None
both f (Some a) (Some b) = f a b

-- one level of an expression, with the values of its parts
abbrev pub expr_step : List Value → Expr-F (Option Value) → Option Value
expr_step row (Expr-F.Column at) = slice_get row at
expr_step row (Expr-F.Constant v) = Some v
expr_step row (Expr-F.Binary op a b) = both (arithmetic op) a b

-- the value of an expression on a row: none where some operation on the way is outside i64
unfoldable pub expr_value : List Value → Expr → Option Value
expr_value row = fold-Expr (Option Value) (expr_step row)
