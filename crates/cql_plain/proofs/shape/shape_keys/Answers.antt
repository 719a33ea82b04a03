use Rattle.std.proofs.lemmas.Grind.{common_steps}
use Rattle.std.proofs.Common.{arith, inr, refl, rules, ◌≡◌, Some, None, sym, ap, ◌∙◌}
use Rattle.cql_algebra.specs.Shape.{times_over}
use Rattle.cql_plain.proofs.Behind.{entry_there, entry_missing}
use Rattle.cql_plain.proofs.Grouping.{row_of_key, start_groups}
use Rattle.cql_plain.proofs.shape.shape_keys.Goals as goal

pub loop-group-init : goal.loop-group-init
loop-group-init c = start_groups c.args.columns.now c.args.items.now c.args.bag.now c.into_iter-group-iterator.result c.in_ok-found.found.entries c.new-shaped.result (search rules) c.in_ok-found.ensures c.new-shaped.ensures

pub loop-group-preserved : goal.loop-group-preserved
loop-group-preserved c =
    let gives : row_of_key c.args.items.now (c.in-Some.field-0-0.now, c.in-Some.group.now) ≡ Some (c.in-Some-2.row, 1) = ap (times_over 1) (sym c.in_ok-row.ensures ∙ c.in-Some-2.is) in
    entry_there (row_of_key c.args.items.now) c.loop-group.group-iterator c.next.new.self (c.in-Some.field-0-0.now, c.in-Some.group.now) (c.in-Some-2.row, 1) c.loop-group.shaped _ _ c.in-Some.ensures.steps gives c.in_ok-add-in-Some-2.ensures.ok c.loop-group.invariant

pub returns-in-None-2-clause-err : goal.returns-in-None-2-clause-err
returns-in-None-2-clause-err c =
    let gives : row_of_key c.args.items.now (c.in-Some.field-0-0.now, c.in-Some.group.now) ≡ None = ap (times_over 1) (sym c.in_ok-row.ensures ∙ c.in-None-2.is) in
    inr (refl, entry_missing (row_of_key c.args.items.now) c.loop-group.group-iterator c.next.new.self (c.in-Some.field-0-0.now, c.in-Some.group.now) c.loop-group.shaped _ c.in-Some.ensures.steps gives c.loop-group.invariant)

pub returns-clause-ok : goal.returns-clause-ok
returns-clause-ok c = grind (arith, common_steps)

pub returns-in-None-2-clause-ok : goal.returns-in-None-2-clause-ok
returns-in-None-2-clause-ok c = grind (arith, common_steps)
