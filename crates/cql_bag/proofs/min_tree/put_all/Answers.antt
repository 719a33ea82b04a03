use Rattle.std.proofs.lemmas.Grind.{common_steps}
use Rattle.std.proofs.Common.{rules, arith, ◌≡◌, ◌<◌, ◌≤◌, ◌/◌, ◌∙◌, length, get_or, set, ap, sym}
use Rattle.std.proofs.lemmas.List.{length-set}
use Rattle.cql_bag.specs.Levels.{pair_least, halved, lists_of, level_at, put}
use Rattle.cql_bag.proofs.Pairs.{halved-put_next, halved-upto_next}
use Rattle.cql_bag.proofs.Towers.{level_at-item, length-lists_of, done-more, ahead-other, lists_of-set, room-ahead}
use Rattle.cql_bag.proofs.min_tree.put_all.Goals as goal

pub loop-level-preserved : goal.loop-level-preserved
loop-level-preserved c =
    let items = c.loop-level.levels.items in
    let j = c.loop-level.level in
    let v = c.index_mut.result.now in
    let w = c.put_in-number.new.level in
    let p = c.loop-level.index in
    let n = c.loop-level.number in
    let first = level_at (lists_of c.args.levels.now.items) 0 in
    let ys = put first c.args.index c.args.number in
    let within : j < length items = search rules in
    let row_within : j < length (lists_of items) = let same : length (lists_of items) ≡ length items = length-lists_of items in omega (arith, same, within) in
    let is : halved j first ≡ v.items = sym (c.loop-level.invariant.ahead j (let e : j ≤ j = omega arith in e) within) ∙ level_at-item items j v within c.index_mut.ensures.value in
    let after : w.items ≡ put (halved j first) p n = c.put_in-number.ensures.after ∙ ap (λ l. put l p n) (sym is) in
    let row : w.items ≡ halved j ys = after ∙ sym c.loop-level.invariant.here in
    let number : c.put_in-number.result ≡ get_or (pair_least (put (halved j first) p n)) (p / 2) 0 = c.put_in-number.ensures.pair ∙ ap (λ l. get_or (pair_least l) (p / 2) 0) after in
    let same_length : length (set items j w) ≡ length items = length-set items j w in
    record {
      count = same_length ∙ c.loop-level.invariant.count;
      len = search rules;
      capacity = search rules;
      done = λ k below. rw (lists_of-set items j w) (done-more (lists_of items) j w.items ys row_within c.loop-level.invariant.done row k below);
      ahead = λ k above in_range. rw (lists_of-set items j w) (ahead-other (lists_of items) j k w.items (halved k first) above (c.loop-level.invariant.ahead k (let e : j ≤ k = omega (arith, above) in e) (let e : k < length items = omega (arith, same_length, in_range) in e)));
      room = λ k d above in_range. room-ahead items j k w d above (c.loop-level.invariant.room k d (let e : j ≤ k = omega (arith, above) in e) (let e : k < length items = omega (arith, same_length, in_range) in e));
      here = halved-put_next j first ys p n c.put_in-number.result c.loop-level.invariant.within c.loop-level.invariant.here number;
      within = halved-upto_next j first p c.loop-level.invariant.within;
    }

pub put_in-number-requires-clause-index : goal.put_in-number-requires-clause-index
put_in-number-requires-clause-index c = grind (arith, common_steps)

pub loop-level-init : goal.loop-level-init
loop-level-init c = grind (arith, common_steps)

pub returns-clause-pairs : goal.returns-clause-pairs
returns-clause-pairs c = grind (arith, common_steps)

pub put_in-number-requires-clause-room : goal.put_in-number-requires-clause-room
put_in-number-requires-clause-room c = grind (arith, common_steps)
