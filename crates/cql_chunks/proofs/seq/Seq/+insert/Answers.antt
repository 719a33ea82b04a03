use Rattle.std.proofs.lemmas.Grind.{common_steps}
use Rattle.std.proofs.Common.{length, ◌-◌, ap, sym, ◌∙◌, arith}
use Rattle.std.specs.Arc.{arc_value}
use Rattle.cql_chunks.specs.Taken.{listed_of}
use Rattle.cql_chunks.proofs.Trees.{insert_right}
use Rattle.cql_chunks.proofs.seq.Seq.+insert.Goals as goal

pub returns : goal.returns
returns t c =
    let whole = sym c.in_ok-cut.ensures.list ∙ ap listed_of c.in-Fork.is in
    let split = insert_right (arc_value c.in-Fork.field-0.left) (arc_value c.in-Fork.field-0.right) c.in-Fork.field-0.own c.args.entry c.args.index (c.args.index - c.len-here.result - 1) (omega (arith, ap length c.deref.ensures, c.len-here.ensures, c.if-index-here.false)) in
    grind (arith, c.balanced-else-index-here.ensures, c.in_ok-more-in-Fork-2.ensures, split, whole)

pub insert-requires : goal.insert-requires
insert-requires t c = grind (arith, common_steps)

pub insert-requires-else-index-here : goal.insert-requires-else-index-here
insert-requires-else-index-here t c = grind (arith, common_steps)

pub returns-then-index-here : goal.returns-then-index-here
returns-then-index-here t c = grind (arith, common_steps)
