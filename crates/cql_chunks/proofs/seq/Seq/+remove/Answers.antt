use Rattle.std.proofs.lemmas.Grind.{common_steps}
use Rattle.std.proofs.Common.{length, ◌-◌, ap, sym, ◌∙◌, ◌∷◌, arith}
use Rattle.std.specs.Prelude.{slice_get}
use Rattle.std.specs.Arc.{arc_value}
use Rattle.cql_chunks.specs.Taken.{listed_of}
use Rattle.std.proofs.lemmas.List.Edits.{remove-append_left}
use Rattle.cql_chunks.proofs.Trees.{remove_right, remove_here, first_between, none_between}
use Rattle.cql_chunks.proofs.seq.Seq.+remove.Goals as goal

pub returns-in_ok-less-in-Fork : goal.returns-in_ok-less-in-Fork
returns-in_ok-less-in-Fork t c =
    let whole = sym c.in_ok-cut.ensures.list ∙ ap listed_of c.in-Fork.is in
    let split = remove-append_left (arc_value c.in-Fork.field-0.left) (c.in-Fork.field-0.own ∷ arc_value c.in-Fork.field-0.right) c.args.index (omega (arith, ap length c.deref.ensures, c.len-here.ensures, c.if-index-here.true)) in
    grind (arith, c.balanced.ensures, c.in_ok-less-in-Fork.ensures, split, whole)

pub returns-in_ok-less-in-Fork-2 : goal.returns-in_ok-less-in-Fork-2
returns-in_ok-less-in-Fork-2 t c =
    let whole = sym c.in_ok-cut.ensures.list ∙ ap listed_of c.in-Fork.is in
    let split = remove_right (arc_value c.in-Fork.field-0.left) (arc_value c.in-Fork.field-0.right) c.in-Fork.field-0.own c.args.index (c.args.index - c.len-here.result - 1) (omega (arith, ap length c.deref.ensures, c.len-here.ensures, c.if-index-here-2.true)) in
    grind (arith, c.balanced-then-index-here-2.ensures, c.in_ok-less-in-Fork-2.ensures, split, whole)

pub returns-in-None : goal.returns-in-None
returns-in-None t c =
    let whole = sym c.in_ok-cut.ensures.list ∙ ap listed_of c.in-Fork.is in
    let split = remove_here (arc_value c.in-Fork.field-0.left) (arc_value c.in-Fork.field-0.right) c.in-Fork.field-0.own c.args.index (omega (arith, ap length c.deref.ensures, c.len-here.ensures, c.if-index-here.false, c.if-index-here-2.false)) in
    let none = none_between (arc_value c.in-Fork.field-0.left) (arc_value c.in-Fork.field-0.right) (c.in-None.ensures ∙ ap (λ l. slice_get l 0) c.deref-else-index-here-2.ensures) in
    cc (split, whole, none)

pub returns-in_ok-less-in-Some : goal.returns-in_ok-less-in-Some
returns-in_ok-less-in-Some t c =
    let whole = sym c.in_ok-cut.ensures.list ∙ ap listed_of c.in-Fork.is in
    let split = remove_here (arc_value c.in-Fork.field-0.left) (arc_value c.in-Fork.field-0.right) c.in-Fork.field-0.own c.args.index (omega (arith, ap length c.deref.ensures, c.len-here.ensures, c.if-index-here.false, c.if-index-here-2.false)) in
    let first = first_between (arc_value c.in-Fork.field-0.left) (arc_value c.in-Fork.field-0.right) c.in-Some.next.now (c.in-Some.ensures ∙ ap (λ l. slice_get l 0) c.deref-else-index-here-2.ensures) in
    grind (arith, c.balanced-in-Some.ensures, c.in_ok-share-in-Some.ensures, c.in_ok-less-in-Some.ensures, split, first, whole)

pub remove-requires : goal.remove-requires
remove-requires t c = grind (arith, common_steps)

pub remove-requires-in-Some : goal.remove-requires-in-Some
remove-requires-in-Some t c = grind (arith, common_steps)

pub remove-requires-then-index-here-2 : goal.remove-requires-then-index-here-2
remove-requires-then-index-here-2 t c = grind (arith, common_steps)
