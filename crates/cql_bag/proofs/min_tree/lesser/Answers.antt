use Rattle.std.proofs.lemmas.Grind.{common_steps}
use Rattle.std.proofs.Common.{rules, ◌<◌, ◌≤◌, ◌*◌, length, get_or, arith}
use Rattle.cql_bag.proofs.Pairs.{lesser-left, lesser-right}
use Rattle.cql_bag.proofs.min_tree.lesser.Goals as goal

pub overflow_mul-left : goal.overflow_mul-left
overflow_mul-left c =
    let within : 2 * c.args.index < length c.args.level.now = lesser-left c.args.level.now c.args.index c.requires.index in
    search rules

pub offset_bounds-level-left : goal.offset_bounds-level-left
offset_bounds-level-left c =
    let within : 2 * c.args.index < length c.args.level.now = lesser-left c.args.level.now c.args.index c.requires.index in
    search rules

pub bounds-level-left : goal.bounds-level-left
bounds-level-left c = lesser-left c.args.level.now c.args.index c.requires.index

pub returns-then-level-left-clause-index : goal.returns-then-level-left-clause-index
returns-then-level-left-clause-index c = lesser-left c.args.level.now c.args.index c.requires.index

pub returns-else-level-left-clause-index : goal.returns-else-level-left-clause-index
returns-else-level-left-clause-index c =
    let over : c.args.bound ≤ get_or c.args.level.now (2 * c.args.index) 0 = c.if-level-left.false in
    (lesser-right c.args.level.now c.args.index c.args.bound c.requires.index c.requires.below over).0

pub returns-else-level-left-clause-below : goal.returns-else-level-left-clause-below
returns-else-level-left-clause-below c =
    let over : c.args.bound ≤ get_or c.args.level.now (2 * c.args.index) 0 = c.if-level-left.false in
    (lesser-right c.args.level.now c.args.index c.args.bound c.requires.index c.requires.below over).1

pub overflow_add-result : goal.overflow_add-result
overflow_add-result c = grind (arith, common_steps)
