-- Which operators and functions tokens mean.
use Rattle.std.specs.Prelude.{if◌then◌else◌, Option, Some, None}
use Rattle.cql_syntax.specs.declared.token.Fixed.TheVariants as k
use Rattle.cql_syntax.specs.declared.token.Token.{Token}
use Rattle.cql_syntax.specs.declared.syntax.StreamOperator.{StreamOperator}
use Rattle.cql_syntax.specs.declared.syntax.StreamOperator.TheVariants.{Istream, Dstream, Rstream}
use Rattle.cql_syntax.specs.declared.syntax.SetOperator.{SetOperator}
use Rattle.cql_syntax.specs.declared.syntax.SetOperator.TheVariants.{UnionAll, ExceptAll}
use Rattle.cql_syntax.specs.declared.syntax.Operation.{Operation}
use Rattle.cql_syntax.specs.declared.syntax.Operation.TheVariants.{Add, Subtract, Multiply}
use Rattle.cql_syntax.specs.declared.syntax.Function.{Function}
use Rattle.cql_syntax.specs.declared.syntax.Function.TheVariants.{Sum, Min, Max}
use Rattle.cql_syntax.specs.declared.syntax.Comparison.{Comparison}
use Rattle.cql_syntax.specs.declared.syntax.Comparison.TheVariants as comparison
use Rattle.cql_syntax.specs.Tokens.{is}

abbrev pub sum_sign : Token → Option Operation
sum_sign x = if is k.Plus x then Some Add else (if is k.Minus x then Some Subtract else None)

abbrev pub product_sign : Token → Option Operation
product_sign x = if is k.Star x then Some Multiply else None

abbrev pub function_of : Token → Option Function
function_of x = if is k.Sum x then Some Sum else (if is k.Min x then Some Min else (if is k.Max x then Some Max else None))

abbrev pub comparison_of : Token → Option Comparison
comparison_of x =
    if is k.Equal x then Some comparison.Equal else (if is k.Unequal x then Some comparison.Unequal else (if is k.Less x then Some comparison.Less
    else (if is k.LessOrEqual x then Some comparison.LessOrEqual else (if is k.Greater x then Some comparison.Greater
    else (if is k.GreaterOrEqual x then Some comparison.GreaterOrEqual else None)))))

abbrev pub stream_operator_of : Token → Option StreamOperator
stream_operator_of x = if is k.Istream x then Some Istream else (if is k.Dstream x then Some Dstream else (if is k.Rstream x then Some Rstream else None))

abbrev pub set_operator_of : Token → Option SetOperator
set_operator_of x = if is k.Union x then Some UnionAll else (if is k.Except x then Some ExceptAll else None)
