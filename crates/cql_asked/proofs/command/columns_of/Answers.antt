use Rattle.std.proofs.lemmas.Grind.{common_steps}
use Rattle.std.proofs.Common.{◌≡◌, None, arith}
use Rattle.std.specs.Prelude.{Err}
use Rattle.cql_lines.specs.View.{view, items_view}
use Rattle.cql_lines.specs.Tree.{all_of}
use Rattle.cql_asked.specs.Command.{column_of}
use Rattle.cql_asked.proofs.Readings.{passed_on}
use Rattle.cql_asked.proofs.command.columns_of.Goals as goal

pub returns-in_err-column_of : goal.returns-in_err-column_of
returns-in_err-column_of c =
    let is : c.from_residual.result ≡ Err c.in_err-column_of.field-0.0 = grind arith in
    let less : column_of (view c.item-item.result) ≡ None → all_of column_of (items_view c.args.items.now) ≡ None = grind (arith, common_steps) in
    passed_on (column_of (view c.item-item.result)) (all_of column_of (items_view c.args.items.now)) c.in_err-column_of.field-0.0 c.from_residual.result is less c.in_err-column_of.ensures

pub loop-item-preserved : goal.loop-item-preserved
loop-item-preserved c = grind (arith, common_steps)

pub returns : goal.returns
returns c = grind (arith, common_steps)
