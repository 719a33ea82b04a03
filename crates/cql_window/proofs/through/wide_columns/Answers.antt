use Rattle.std.proofs.lemmas.Grind.{common_steps}
use Rattle.std.proofs.Common.{[], ◌++◌, ◌∙◌, sym, arith}
use Rattle.std.specs.List.{cons_option}
use Rattle.cql_window.proofs.Picks.{at_more}
use Rattle.cql_window.proofs.through.wide_columns.Goals as goal

pub loop-column-preserved : goal.loop-column-preserved
loop-column-preserved c =
    c.in_ok-push_column.ensures ∙ (λ k. c.loop-column.invariant k ++ cons_option (c.at.ensures k) [])
    ∙ sym (at_more c.args.projection.now c.args.columns.now c.loop-column.column-index c.loop-column-test.true)

pub returns : goal.returns
returns c = grind (arith, common_steps)
