use Rattle.std.proofs.Common.{ap, ◌∙◌, arith}
use Rattle.cql_plan.specs.declared.expr.Expr.TheVariants.{Column as column}
use Rattle.cql_plan.specs.declared.node.Item.TheVariants.{Value as value}
use Rattle.cql_plan.proofs.ShownColumns.{next_shown, no_shown}
use Rattle.cql_plan.proofs.plan.are_columns.Goals as goal

pub loop-index-init : goal.loop-index-init
loop-index-init c = λ columns many all. all

pub returns : goal.returns
returns c = λ is columns many. c.loop-index.invariant columns many (no_shown c.args.items.now columns c.loop-index.index (omega (arith, many, c.if-items-many.false)) (omega (arith, c.loop-index-test.false)))

pub loop-index-preserved : goal.loop-index-preserved
loop-index-preserved c = λ columns many rest.
    c.loop-index.invariant columns many (next_shown c.args.items.now columns c.loop-index.index c.index-items-index.result (omega (arith, c.loop-index-test.true)) (omega (arith, many, c.if-items-many.false)) c.index-items-index.is (c.in-Value.is ∙ ap value c.in-Column.is ∙ ap (λ n. value (column n)) c.if-column-index.false) rest)
