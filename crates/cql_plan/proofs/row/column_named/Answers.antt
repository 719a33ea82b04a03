use Rattle.std.proofs.Common.{sym, ◌∙◌, ap, add-one, arith}
use Rattle.cql_plan.specs.Columns.{the_one}
use Rattle.cql_plan.proofs.Finding.{found_list, passed, first, second, ended}
use Rattle.cql_plan.proofs.row.column_named.Goals.{then-may_mean+else-is_some, else-may_mean}
use Rattle.cql_plan.proofs.row.column_named.Goals as goal

pub returns-then-is_some : goal.returns-then-is_some
returns-then-is_some c =
    sym (second _ _ _ _ c.index-fields-column.result c.loop-column.found c.loop-column-test.true c.index-fields-column.is (sym c.if-may_mean.true ∙ c.may_mean.ensures) (sym c.if-is_some.true ∙ c.is_some.ensures) c.loop-column.invariant)

pub loop-column-preserved : goal.loop-column-preserved
loop-column-preserved c =
    elim c.if-may_mean.branch [
      | then-may_mean+else-is_some w ↦
          let one = first _ _ _ _ c.index-fields-column.result c.loop-column.found c.loop-column-test.true c.index-fields-column.is (sym w.if-may_mean.true ∙ c.may_mean.ensures) (sym w.if-is_some.false ∙ w.is_some.ensures) c.loop-column.invariant in
          rw (add-one, w.found-is) one
      | else-may_mean w ↦
          let one = passed _ _ _ _ c.index-fields-column.result c.loop-column.found c.loop-column-test.true c.index-fields-column.is (sym w.if-may_mean.false ∙ c.may_mean.ensures) c.loop-column.invariant in
          rw (add-one, w.found-is) one
    ]

pub returns-in-None : goal.returns-in-None
returns-in-None c =
    ap (λ found. the_one (found_list found)) (sym c.in-None.is) ∙ sym (ended _ _ _ _ c.loop-column.found (omega arith) c.loop-column.invariant)

pub returns-in-Some : goal.returns-in-Some
returns-in-Some c =
    ap (λ found. the_one (found_list found)) (sym c.in-Some.is) ∙ sym (ended _ _ _ _ c.loop-column.found (omega arith) c.loop-column.invariant)
