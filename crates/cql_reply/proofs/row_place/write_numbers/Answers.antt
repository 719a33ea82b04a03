use Rattle.std.proofs.lemmas.Grind.{common_steps}
use Rattle.std.proofs.Common.{arith, true, ◌≡◌, ◌∷◌, ◌+◌, ◌-◌, length, drop, refl, sym, ap, ◌∙◌, subst}
use Rattle.std.proofs.lemmas.List.{drop-set, drop-drop, drop_all, length-set}
use Rattle.cql_reply.specs.Line.{items_text, value_text}
use Rattle.cql_reply.proofs.Telling.{opened}
use Rattle.cql_reply.proofs.row_place.write_numbers.Goals as goal

pub loop-left-init : goal.loop-left-init
loop-left-init c =
    let last = length c.args.text.now - 1 in (
      rw (drop-set c.args.text.now last 93 (omega arith), drop_all (last + 1) c.args.text.now (omega arith), drop_all (length c.args.values.now) c.args.values.now (omega arith)) refl,
      omega arith,
      omega (arith, length-set c.args.text.now last 93),
      omega (arith, length-set c.args.text.now last 93),
      length-set c.args.text.now last 93,
    )

pub returns-clause-written : goal.returns-clause-written
returns-clause-written c =
    let from = c.loop-left.from in
    let text = c.loop-left.text in
    let none : c.loop-left.left ≡ 0 = omega (arith, c.loop-left-test.false) in
    let whole = subst (λ n. drop from text ≡ items_text value_text true (drop n c.args.values.now)) none c.loop-left.invariant.0 in
    drop-set text from 91 (omega arith) ∙ ap (λ l. 91 ∷ l) (sym (drop-drop 1 from text)) ∙ opened c.args.values.now c.requires.0 (drop from text) whole

pub bounds-text-from-in-loop-left : goal.bounds-text-from-in-loop-left
bounds-text-from-in-loop-left c = omega arith

pub overflow_sub-from-in-loop-left : goal.overflow_sub-from-in-loop-left
overflow_sub-from-in-loop-left c = omega arith

pub loop-left-smaller : goal.loop-left-smaller
loop-left-smaller c = grind (arith, common_steps)

pub loop-left-preserved : goal.loop-left-preserved
loop-left-preserved c = grind (arith, common_steps)

pub returns-clause-short : goal.returns-clause-short
returns-clause-short c = grind (arith, common_steps)
