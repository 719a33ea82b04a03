use Rattle.std.proofs.Common.{◌≡◌, false, sym, ◌∙◌}
use Rattle.cql_bag.specs.Rest.{strike}
use Rattle.cql_bag.proofs.Struck.{next_kept, all_kept}
use Rattle.cql_bag.proofs.rest.strikes_any.Goals as goal

pub loop-row-preserved : goal.loop-row-preserved
loop-row-preserved c =
    let apart : (strike c.row-item.result c.loop-row.left.now).1 ≡ false = sym c.strike-struck.ensures.found ∙ c.if-struck.false in
    λ rest. c.loop-row.invariant (next_kept c.args.rows.now c.loop-row.left.now c.strike-struck.result.0.now c.loop-row.row-index c.row-item.result c.loop-row-test.true c.row-item.is c.strike-struck.ensures.rest apart rest)

pub returns : goal.returns
returns c = λ none. c.loop-row.invariant (all_kept c.args.rows.now c.loop-row.left.now c.loop-row.row-index c.loop-row-test.false)
