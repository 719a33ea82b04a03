use Rattle.std.proofs.lemmas.Grind.{common_steps}
use Rattle.std.proofs.Common.{rules, ◌≡◌, inr, refl, sym, subst, arith}
use Rattle.cql_algebra.specs.Shape.{items_on}
use Rattle.cql_plain.specs.Logs.{logged_bag, told_image}
use Rattle.cql_plain.specs.Shaped.{TellsShape}
use Rattle.cql_plain.proofs.Shaped.{rows_fail, rows_told}
use Rattle.cql_plain.proofs.projected.Projected.tell.Goals as goal

pub returns-then-self-gt0-clause-err : goal.returns-then-self-gt0-clause-err
returns-then-self-gt0-clause-err c = inr (refl, rows_fail c.same_counts.ensures c.put_all_counts.ensures c.take_counts.ensures c.args.shape.now c.args.self.now c.requires (omega arith))

pub returns-clause-told : goal.returns-clause-told
returns-clause-told c =
    let shape = c.args.shape.now in
    let rows = c.args.self.now in
    let f = items_on shape.items in
    let none : rows.lacking ≡ 0 = omega arith in
    let told = rows_told c.same_counts.ensures c.put_all_counts.ensures c.take_counts.ensures shape rows c.requires c.tells_law.ensures c.item_types_law.ensures c.args.out.now.items c.append.new.self.items none c.in_ok-append.ensures.items in
    subst (λ l. TellsShape shape (logged_bag rows.log) (told_image f rows.log) (told_image f l) c.args.out.now.items c.append.new.self.items) (sym c.pass.ensures) told

pub returns-clause-keeps : goal.returns-clause-keeps
returns-clause-keeps c = grind (arith, common_steps)

pub returns-in_err-append-clause-kept : goal.returns-in_err-append-clause-kept
returns-in_err-append-clause-kept c = search rules
