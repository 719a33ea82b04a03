use Rattle.std.proofs.Common.{rules, IsTrue}
use Rattle.cql_algebra.specs.Shape.{item_value}
use Rattle.cql_plain.proofs.Behind.{next_column, no_column}
use Rattle.cql_plain.proofs.items.are_columns.Goals as goal

pub loop-index-init : goal.loop-index-init
loop-index-init c = λ all. all

pub loop-index-preserved : goal.loop-index-preserved
loop-index-preserved c =
    let is : IsTrue c.is_column.result = search rules in
    λ rest. c.loop-index.invariant (next_column (item_value c.args.row.now) c.args.items.now c.args.row.now c.loop-index.index c.index-items-index.result c.if-items-row.false c.loop-index-test.true c.index-items-index.is (c.is_column.ensures is c.args.row.now) rest)

pub returns : goal.returns
returns c = λ t. c.loop-index.invariant (no_column (item_value c.args.row.now) c.args.items.now c.args.row.now c.loop-index.index c.if-items-row.false c.loop-index-test.false)
