use Rattle.std.proofs.Common.{sym, ap, ◌∙◌, subst}
use Rattle.cql_algebra.specs.Shape.{items_on}
use Rattle.cql_plain.specs.Made.{AreMade}
use Rattle.cql_plain.proofs.items.turn_by.Goals.{then-not-change+in_default, else-not-change, in-true-Some+in_ok-keep, then-change+in-None-1, else-change}
use Rattle.cql_plain.proofs.items.turn_by.Goals as goal

pub returns-in-Some-clause-row : goal.returns-in-Some-clause-row
returns-in-Some-clause-row c = sym (c.in-Some.ensures.row c.args.items.now c.requires)

pub returns-in-Some-clause-made : goal.returns-in-Some-clause-made
returns-in-Some-clause-made c = c.take.ensures.rest c.args.items.now c.requires

pub returns-clause-made : goal.returns-clause-made
returns-clause-made c =
    let items = c.args.items.now in
    let before : AreMade items c.if-not-change.made.rows.items = elim c.if-not-change.branch [
      | then-not-change+in_default w ↦ subst (λ v. AreMade items v.rows.items) (sym w.made-is) (w.take.ensures.rest items c.requires)
      | else-not-change w ↦ subst (λ v. AreMade items v.rows.items) (sym w.made-is) c.requires
    ] in
    elim c.if-change.branch [
      | in-true-Some+in_ok-keep w ↦ subst (λ v. AreMade items v.rows.items) (sym w.made-is) (w.in_ok-keep.ensures items before (ap (items_on items) (sym c.values-2.ensures) ∙ sym c.in_ok-row.ensures ∙ w.in-true-Some.is-1))
      | then-change+in-None-1 w ↦ subst (λ v. AreMade items v.rows.items) (sym w.made-is) before
      | else-change w ↦ subst (λ v. AreMade items v.rows.items) (sym w.made-is) before
    ]
