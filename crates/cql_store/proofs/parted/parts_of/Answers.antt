use Rattle.std.proofs.lemmas.Grind.{common_steps}
use Rattle.std.proofs.Common.{◌≡◌, ◌+◌, suc, ◌∷◌, ◌++◌, [], take, ◌∙◌, ap, subst, arith}
use Rattle.std.specs.Prelude.{slice_get}
use Rattle.std.specs.Arc.{arc_value}
use Rattle.cql_store.specs.Parts.{AreParted}
use Rattle.cql_store.proofs.RowNumbers.{take_more}
use Rattle.cql_store.proofs.parted.parts_of.Goals as goal

pub loop-index-preserved : goal.loop-index-preserved
loop-index-preserved c =
    let rows = arc_value c.args.rows.now in
    let columns = c.args.columns.now in
    let index = c.loop-index.index in
    let entry = c.in_ok-share.field-0 in
    let more : suc index ≡ index + 1 = omega arith in
    let at = c.in-Some.ensures ∙ ap (λ xs. slice_get xs index) c.deref-in-loop-index.ensures in
    let seen = ap (λ e. take index rows ++ e ∷ []) c.in_ok-share.ensures ∙ take_more rows index c.in-Some.entry.now at ∙ ap (λ n. take n rows) more in
    (c.loop-index.invariant.0, subst (λ xs. AreParted columns xs (arc_value c.in_ok-parts-2.parts)) seen (c.in_ok-parts-2.ensures (take index rows) c.loop-index.invariant.1))

pub returns : goal.returns
returns c = grind (arith, common_steps)
