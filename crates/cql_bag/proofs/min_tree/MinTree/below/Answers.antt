use Rattle.std.proofs.lemmas.Grind.{common_steps}
use Rattle.std.proofs.Common.{rules, arith, ◌≡◌, ◌<◌, ◌-◌, ◌∙◌, Some, length, get_or, ap, sym}
use Rattle.cql_bag.specs.Levels.{pair_least, least_of, lists_of, level_at}
use Rattle.cql_bag.proofs.Towers.{level_at-item, length-lists_of, tower-next, some-levels, top-least}
use Rattle.cql_bag.proofs.min_tree.MinTree.below.Goals as goal

pub loop-level-init : goal.loop-level-init
loop-level-init c =
    let items = c.self.inside.levels.items in
    let now = lists_of items in
    let long : length now ≡ length items = length-lists_of items in
    let len : c.len-level.result ≡ length items = search rules in
    let least : Some c.in_ok-least.least ≡ least_of (level_at now 0) = c.in_ok-least.ensures.value ∙ ap least_of (sym c.self.view_is) in
    let full : 0 < length now = some-levels now c.in_ok-least.least least in
    let top = top-least now c.in_ok-least.least c.self.invariant least in
    let last : length now - 1 ≡ c.len-level.result - 1 = omega (arith, long, len) in
    let some : 0 < length (level_at now (c.len-level.result - 1)) = rw (sym last) top.0 in
    let is : get_or (level_at now (c.len-level.result - 1)) 0 0 ≡ c.in_ok-least.least = rw (sym last) top.1 in
    record {
      level = omega (arith, full, long, len);
      index = some;
      below = omega (arith, is);
    }

pub lesser-index-requires-clause-index : goal.lesser-index-requires-clause-index
lesser-index-requires-clause-index c =
    let items = c.self.inside.levels.items in
    let k = c.loop-level.level - 1 in
    let v = c.index.result.now in
    let within : k < length items = search rules in
    let at : v.items ≡ level_at (lists_of items) k = sym (level_at-item items k v within c.index.ensures) in
    let long : length (lists_of items) ≡ length items = length-lists_of items in
    let pairs : level_at (lists_of items) c.loop-level.level ≡ pair_least (level_at (lists_of items) k) = tower-next (lists_of items) c.loop-level.level k c.self.invariant (omega arith) (omega (arith, long)) in
    let row : pair_least c.deref.result.now ≡ level_at (lists_of items) c.loop-level.level = ap pair_least (c.deref.ensures.value ∙ at) ∙ sym pairs in
    omega (arith, ap length row)

pub lesser-index-requires-clause-below : goal.lesser-index-requires-clause-below
lesser-index-requires-clause-below c =
    let items = c.self.inside.levels.items in
    let k = c.loop-level.level - 1 in
    let v = c.index.result.now in
    let within : k < length items = search rules in
    let at : v.items ≡ level_at (lists_of items) k = sym (level_at-item items k v within c.index.ensures) in
    let long : length (lists_of items) ≡ length items = length-lists_of items in
    let pairs : level_at (lists_of items) c.loop-level.level ≡ pair_least (level_at (lists_of items) k) = tower-next (lists_of items) c.loop-level.level k c.self.invariant (omega arith) (omega (arith, long)) in
    let row : pair_least c.deref.result.now ≡ level_at (lists_of items) c.loop-level.level = ap pair_least (c.deref.ensures.value ∙ at) ∙ sym pairs in
    rw row c.loop-level.invariant.below

pub loop-level-preserved : goal.loop-level-preserved
loop-level-preserved c = grind (arith, common_steps)

pub overflow_sub-level : goal.overflow_sub-level
overflow_sub-level c = grind (arith, common_steps)

pub returns-clause-some : goal.returns-clause-some
returns-clause-some c = grind (arith, common_steps)

pub returns-then-bound-least-clause-none : goal.returns-then-bound-least-clause-none
returns-then-bound-least-clause-none c = grind (arith, common_steps)
