use Rattle.std.proofs.lemmas.Grind.{common_steps}
use Rattle.std.proofs.Common.{◌+◌, ◌∷◌, ◌++◌, [], length, sym, ◌∙◌, ap, subst, arith}
use Rattle.std.specs.Arc.{arc_value}
use Rattle.std.specs.List.{insert}
use Rattle.cql_store.specs.Parts.{AreNumbered, AreParted}
use Rattle.cql_store.proofs.RowNumbers.{numbers_more, insert_end}
use Rattle.cql_store.proofs.coming.come_in.Goals as goal

pub returns-clause-numbered : goal.returns-clause-numbered
returns-clause-numbered c =
    let rows = arc_value c.in_ok-rows.rows in
    let twin = c.in_ok-twin.twin in
    let made = c.in_ok-rows-2.ensures ∙ ap (λ n. insert rows n twin) (c.len-end.ensures ∙ ap length c.deref.ensures) ∙ insert_end rows twin in
    subst (AreNumbered (c.args.next + 1)) (sym made) (numbers_more c.args.next rows twin (ap (λ e. e.number) c.in_ok-twin.ensures) (c.in_ok-rows.ensures.numbered c.args.next c.requires.numbered))

pub returns-clause-parted : goal.returns-clause-parted
returns-clause-parted c =
    let rows = arc_value c.in_ok-rows.rows in
    let twin = c.in_ok-twin.twin in
    let made = c.in_ok-rows-2.ensures ∙ ap (λ n. insert rows n twin) (c.len-end.ensures ∙ ap length c.deref.ensures) ∙ insert_end rows twin in
    subst (λ xs. AreParted c.args.columns.now xs (arc_value c.in_ok-parts.parts)) (sym (made ∙ ap (λ e. rows ++ e ∷ []) c.in_ok-twin.ensures)) (c.in_ok-parts.ensures rows c.in_ok-rows.ensures.parted)

pub returns-clause-rows : goal.returns-clause-rows
returns-clause-rows c = grind (arith, common_steps)

pub insert-requires-clause-index : goal.insert-requires-clause-index
insert-requires-clause-index c = grind (arith, common_steps)
