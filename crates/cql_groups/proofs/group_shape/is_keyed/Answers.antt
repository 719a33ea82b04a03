use Rattle.std.proofs.lemmas.Grind.{common_steps}
use Rattle.std.proofs.Common.{◌<◌, length, get_or, arith}
use Rattle.std.proofs.lemmas.Bool.{false≢true}
use Rattle.cql_plan.specs.Fit.{HasColumn}
use Rattle.cql_groups.proofs.Keyed.{has_column, all_next_at}
use Rattle.cql_groups.proofs.group_shape.is_keyed.Goals as goal

pub loop-column-preserved : goal.loop-column-preserved
loop-column-preserved c =
    let lt : c.loop-column.column-index < length c.as_slice-groups.result.now = omega arith in
    all_next_at (HasColumn c.args.shape.now.columns) c.as_slice-groups.result.now c.loop-column.column-index 0 lt c.loop-column.invariant (has_column c.args.shape.now.columns (get_or c.as_slice-groups.result.now c.loop-column.column-index 0) (omega (arith, c.len-columns.ensures, c.if-column-columns.false)))

pub loop-item-preserved : goal.loop-item-preserved
loop-item-preserved c = grind (arith, common_steps)

pub returns : goal.returns
returns c = grind (arith, common_steps)

pub returns-then-only_counts : goal.returns-then-only_counts
returns-then-only_counts c = λ t. absurd (false≢true t)

pub returns-then-column-columns : goal.returns-then-column-columns
returns-then-column-columns c = λ t. absurd (false≢true t)

pub returns-then-not-is_keyed_item : goal.returns-then-not-is_keyed_item
returns-then-not-is_keyed_item c = λ t. absurd (false≢true t)
