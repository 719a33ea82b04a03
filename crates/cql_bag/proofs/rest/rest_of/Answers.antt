use Rattle.std.proofs.lemmas.Grind.{common_steps}
use Rattle.std.proofs.Common.{◌≡◌, ◌++◌, [], drop, sym, ap, ◌∙◌, append-nil, arith}
use Rattle.std.proofs.lemmas.List.{drop_all}
use Rattle.cql_bag.specs.Rest.{rest_rows}
use Rattle.cql_bag.proofs.Struck.{ascending, rest_law}
use Rattle.cql_bag.proofs.rest.rest_of.Goals as goal

pub returns : goal.returns
returns c =
    let none : drop c.loop-row.row-index c.args.rows.now ≡ [] = drop_all c.loop-row.row-index c.args.rows.now c.loop-row-test.false in
    c.from_vec.ensures
    ∙ c.shrink_to_fit.ensures.items
    ∙ sym (append-nil c.loop-row.rest.items)
    ∙ ap (λ l. c.loop-row.rest.items ++ rest_rows l c.loop-row.left.now) (sym none)
    ∙ c.loop-row.invariant
    ∙ rest_law c.args.rows.now c.args.others.now (ascending c.args.rows.now c.requires.first) (ascending c.args.others.now c.requires.second)

pub loop-row-preserved : goal.loop-row-preserved
loop-row-preserved c = grind (arith, common_steps)
