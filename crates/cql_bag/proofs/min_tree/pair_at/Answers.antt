use Rattle.std.proofs.Common.{rules, sym, ◌∙◌, ◌≤◌, ◌<◌, ◌+◌, ◌-◌, ◌%◌, length}
use Rattle.cql_bag.proofs.Pairs.{pair_at-both, pair_at-last}
use Rattle.cql_bag.proofs.min_tree.pair_at.Goals as goal

pub returns-then-first-level : goal.returns-then-first-level
returns-then-first-level c =
    let xs = c.args.level.now in
    let p = c.args.index in
    let within : (p - p % 2) + 1 < length xs = search rules in
    c.min.ensures ∙ sym (pair_at-both xs p within)

pub returns-else-first-level : goal.returns-else-first-level
returns-else-first-level c =
    let xs = c.args.level.now in
    let p = c.args.index in
    let within : p < length xs = search rules in
    let past : length xs ≤ (p - p % 2) + 1 = search rules in
    sym (pair_at-last xs p within past)
