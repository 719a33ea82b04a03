use Rattle.std.proofs.Common.{rules, arith, ◌≡◌, ◌≤◌, length}
use Rattle.std.proofs.lemmas.Grind.{same_number_lists}
use Rattle.cql_bag.specs.Levels.{pair_least}
use Rattle.cql_bag.proofs.Pairs.{length-pair_least}
use Rattle.cql_bag.proofs.min_tree.pair_into.Goals as goal

pub pair_at-requires : goal.pair_at-requires
pair_at-requires c =
    let len : c.len-index-end.result ≡ length c.args.above.now.items = search rules in
    omega (arith, len, c.requires, length-pair_least c.args.below.now, c.loop-index-test.true)

pub returns : goal.returns
returns c =
    let past : length c.loop-index.above.items ≤ c.loop-index.index = search rules in
    same_number_lists c.loop-index.above.items (pair_least c.args.below.now) c.loop-index.invariant.count (λ k within. c.loop-index.invariant.done k (omega (arith, within, past)))
