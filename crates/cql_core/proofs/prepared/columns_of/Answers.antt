use Rattle.std.proofs.lemmas.Grind.{common_steps}
use Rattle.std.proofs.Common.{arith, ◌∙◌, sym, ap, add-one}
use Rattle.cql_core.specs.Columns.{column_of}
use Rattle.cql_core.proofs.Columns.{stops, goes_on}
use Rattle.cql_core.proofs.prepared.columns_of.Goals as goal

pub returns-in-None : goal.returns-in-None
returns-in-None c =
    sym (stops _ _ c.column-item.result _ c.loop-column-test.true c.loop-column.invariant (ap column_of (sym c.column-item.is) ∙ sym c.in_ok-column.ensures ∙ c.in-None.is))

pub loop-column-preserved : goal.loop-column-preserved
loop-column-preserved c =
    let one = goes_on _ _ c.column-item.result _ c.in-Some.column c.loop-column-test.true c.loop-column.invariant (ap column_of (sym c.column-item.is) ∙ sym c.in_ok-column.ensures ∙ c.in-Some.is) in
    rw (add-one, c.in_ok-push-in-Some.ensures.items) one

pub returns : goal.returns
returns c = grind (arith, common_steps)
