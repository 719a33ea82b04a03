use Rattle.std.proofs.Common.{rules, arith, ◌≡◌, ◌≤◌, ◌⊎◌, length}
use Rattle.cql_bag.proofs.Marked.{changed_beside, min_past}
use Rattle.cql_bag.proofs.min_tree.set_beside.Goals as goal

pub returns : goal.returns
returns c =
    let len : c.len.result ≡ length c.args.level.now.items = search rules in
    let count : length c.loop-index.level.items ≡ length c.args.level.now.items = c.loop-index.invariant.count in
    let past : (length c.loop-index.level.items ≤ c.loop-index.index) ⊎ (length c.args.others.now ≤ c.loop-index.index) = min_past (length c.loop-index.level.items) (length c.args.others.now) c.loop-index.index (omega (arith, len, count, c.min-index-end.ensures, c.loop-index-test.false)) in
    changed_beside c.args.others.now c.args.level.now.items c.loop-index.level.items c.args.bound c.args.number c.loop-index.index past c.loop-index.invariant.count c.loop-index.invariant.done c.loop-index.invariant.ahead
