use Rattle.std.proofs.Common.{rules, ◌≤◌, length}
use Rattle.cql_bag.proofs.Marked.{changed_low}
use Rattle.cql_bag.proofs.min_tree.set_low.Goals as goal

pub returns : goal.returns
returns c =
    let past : length c.loop-index.level.items ≤ c.loop-index.index = search rules in
    changed_low c.args.level.now.items c.loop-index.level.items c.args.bound c.args.number c.loop-index.index past c.loop-index.invariant.count c.loop-index.invariant.done
