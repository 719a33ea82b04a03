use Rattle.std.proofs.lemmas.Grind.{common_steps}
use Rattle.std.proofs.Common.{rules, ◌≡◌, ◌∙◌, ◌<◌, length, sym, arith}
use Rattle.cql_bag.proofs.Pairs.{put-set, put-push}
use Rattle.cql_bag.proofs.min_tree.put_in.Goals as goal

pub returns-then-index-len-clause-after : goal.returns-then-index-len-clause-after
returns-then-index-len-clause-after c =
    let xs = c.args.level.now.items in
    let within : c.args.index < length xs = search rules in
    c.set_in.ensures.after ∙ sym (put-set xs c.args.index c.args.number within)

pub returns-clause-after : goal.returns-clause-after
returns-clause-after c =
    let xs = c.args.level.now.items in
    let is : c.args.index ≡ length xs = search rules in
    c.push_reserved.ensures.items ∙ sym (put-push xs c.args.index c.args.number is)

pub returns-clause-pair : goal.returns-clause-pair
returns-clause-pair c = grind (arith, common_steps)
