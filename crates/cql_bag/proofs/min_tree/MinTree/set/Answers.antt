use Rattle.std.proofs.lemmas.Grind.{common_steps}
use Rattle.std.proofs.Common.{rules, arith, ◌≡◌, ◌<◌, ◌≤◌, ◌/◌, ◌∙◌, ℕ, length, get_or, set, ap, sym}
use Rattle.std.proofs.lemmas.List.{length-set}
use Rattle.cql_bag.specs.Levels.{pair_least, halved, lists_of, level_at}
use Rattle.cql_bag.proofs.Pairs.{halved-set_next, halved-within_next}
use Rattle.cql_bag.proofs.Towers.{level_at-item, length-lists_of, tower-again, done-more, ahead-other, lists_of-set}
use Rattle.cql_bag.proofs.min_tree.MinTree.set.Goals as goal

pub invariant_of-self : goal.invariant_of-self
invariant_of-self c =
    let old = lists_of c.self.inside.levels.items in
    let items = c.loop-level.self-inside.levels.items in
    let count : length (lists_of items) ≡ length old = length-lists_of items ∙ c.loop-level.invariant.count ∙ sym (length-lists_of c.self.inside.levels.items) in
    let past : length items ≤ c.loop-level.level = search rules in
    let all : (k : ℕ) → k < length (lists_of items) → level_at (lists_of items) k ≡ halved k (set (level_at old 0) c.args.index c.args.number) =
    λ k within. c.loop-level.invariant.done k (let same : length (lists_of items) ≡ length items = length-lists_of items in omega (arith, same, within, past)) in
    tower-again old (lists_of items) (set (level_at old 0) c.args.index c.args.number) c.self.invariant count all (length-set (level_at old 0) c.args.index c.args.number)

pub set_in-number-requires : goal.set_in-number-requires
set_in-number-requires c =
    let items = c.loop-level.self-inside.levels.items in
    let j = c.loop-level.level in
    let v = c.index_mut.result.now in
    let first = level_at (lists_of c.self.inside.levels.items) 0 in
    let within : j < length items = search rules in
    let is : halved j first ≡ v.items = sym (c.loop-level.invariant.ahead j (let e : j ≤ j = omega arith in e) within) ∙ level_at-item items j v within c.index_mut.ensures.value in
    let long : length (halved j first) ≡ length v.items = ap length is in
    let here : c.loop-level.index < length (halved j first) = c.loop-level.invariant.within in
    omega (arith, long, here)

pub loop-level-preserved : goal.loop-level-preserved
loop-level-preserved c =
    let items = c.loop-level.self-inside.levels.items in
    let j = c.loop-level.level in
    let v = c.index_mut.result.now in
    let w = c.set_in-number.new.level in
    let p = c.loop-level.index in
    let n = c.loop-level.number in
    let first = level_at (lists_of c.self.inside.levels.items) 0 in
    let ys = set first c.args.index c.args.number in
    let within : j < length items = search rules in
    let row_within : j < length (lists_of items) = let same : length (lists_of items) ≡ length items = length-lists_of items in omega (arith, same, within) in
    let is : halved j first ≡ v.items = sym (c.loop-level.invariant.ahead j (let e : j ≤ j = omega arith in e) within) ∙ level_at-item items j v within c.index_mut.ensures.value in
    let after : w.items ≡ set (halved j first) p n = c.set_in-number.ensures.after ∙ ap (λ l. set l p n) (sym is) in
    let row : w.items ≡ halved j ys = after ∙ sym c.loop-level.invariant.here in
    let number : c.set_in-number.result ≡ get_or (pair_least (set (halved j first) p n)) (p / 2) 0 = c.set_in-number.ensures.pair ∙ ap (λ l. get_or (pair_least l) (p / 2) 0) after in
    record {
      count = length-set items j w ∙ c.loop-level.invariant.count;
      done = λ k below. rw (lists_of-set items j w) (done-more (lists_of items) j w.items ys row_within c.loop-level.invariant.done row k below);
      ahead = λ k above in_range. rw (lists_of-set items j w) (ahead-other (lists_of items) j k w.items (halved k first) above (c.loop-level.invariant.ahead k (let e : j ≤ k = omega (arith, above) in e) (let same : length (set items j w) ≡ length items = length-set items j w in let e : k < length items = omega (arith, same, in_range) in e)));
      here = halved-set_next j first ys p n c.set_in-number.result c.loop-level.invariant.within c.loop-level.invariant.here number;
      within = halved-within_next j first p c.loop-level.invariant.within;
    }

pub loop-level-init : goal.loop-level-init
loop-level-init c = grind (arith, common_steps)

pub returns : goal.returns
returns c = grind (arith, common_steps)
