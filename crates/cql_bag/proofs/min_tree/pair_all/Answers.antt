use Rattle.std.proofs.lemmas.Grind.{common_steps}
use Rattle.std.proofs.Common.{rules, arith, ◌≡◌, ◌<◌, ◌≤◌, ◌-◌, ◌∙◌, length, get_or, take, drop, sym, ap}
use Rattle.std.proofs.lemmas.List.{length-set}
use Rattle.cql_bag.specs.Levels.{pair_least, lists_of, level_at, halved}
use Rattle.cql_bag.proofs.Towers.{length-lists_of, done-more, ahead-other, lists_of-set}
use Rattle.cql_bag.proofs.Marked.{joined_set, pairs_fit, pairs_next, of_front, of_back}
use Rattle.cql_bag.proofs.min_tree.pair_all.Goals as goal

pub pair_into-requires : goal.pair_into-requires
pair_into-requires c =
    let items = c.loop-level.levels.items in
    let old = lists_of c.args.levels.now.items in
    let j = c.loop-level.level in
    let v = c.index-below-level.result in
    let w = c.index-above-0.result in
    let within : j < length items = search rules in
    let some : 0 < j = omega arith in
    let whole : c.deref_mut.result.now ≡ items = c.deref_mut.ensures.value in
    let below : v ≡ get_or items (j - 1) v = of_front items c.split_at_mut-below.result.0.now j v some (c.split_at_mut-below.ensures.front ∙ ap (take j) whole) c.index-below-level.is in
    let here : w ≡ get_or items j w = of_back items c.split_at_mut-below.result.1.now j w (c.split_at_mut-below.ensures.back ∙ ap (drop j) whole) c.index-above-0.is in
    let ahead : level_at (lists_of items) j ≡ level_at old j = c.loop-level.invariant.ahead j (let e : j ≤ j = omega arith in e) in
    let done : level_at (lists_of items) (j - 1) ≡ halved (j - 1) (level_at old 0) = c.loop-level.invariant.done (j - 1) (let e : j - 1 < j = omega (arith, some) in e) in
    let low : c.deref.result.now ≡ v.items = c.deref.ensures.value ∙ ap (λ u. u.items) (sym c.index-below-level.is) in
    let high : (get_or c.split_at_mut-below.result.1.now 0 w).items ≡ w.items = ap (λ u. u.items) (sym c.index-above-0.is) in
    let long : length (level_at old j) ≡ length (halved j (level_at old 0)) = c.requires j (let e : length old ≡ length items = length-lists_of c.args.levels.now.items ∙ sym c.loop-level.invariant.count in omega (arith, e, within)) in
    ap length high ∙ pairs_fit items old j v w some within below here done ahead long ∙ ap (λ l. length (pair_least l)) (sym low)

pub loop-level-preserved : goal.loop-level-preserved
loop-level-preserved c =
    let items = c.loop-level.levels.items in
    let old = lists_of c.args.levels.now.items in
    let j = c.loop-level.level in
    let v = c.index-below-level.result in
    let w = c.pair_into.new.above in
    let within : j < length items = search rules in
    let row_within : j < length (lists_of items) = let same : length (lists_of items) ≡ length items = length-lists_of items in omega (arith, same, within) in
    let some : 0 < j = omega arith in
    let whole : c.deref_mut.result.now ≡ items = c.deref_mut.ensures.value in
    let below : v ≡ get_or items (j - 1) v = of_front items c.split_at_mut-below.result.0.now j v some (c.split_at_mut-below.ensures.front ∙ ap (take j) whole) c.index-below-level.is in
    let done : level_at (lists_of items) (j - 1) ≡ halved (j - 1) (level_at old 0) = c.loop-level.invariant.done (j - 1) (let e : j - 1 < j = omega (arith, some) in e) in
    let low : c.deref.result.now ≡ v.items = c.deref.ensures.value ∙ ap (λ u. u.items) (sym c.index-below-level.is) in
    let row : w.items ≡ halved j (level_at old 0) = pairs_next items old j v w.items some within below done (c.pair_into.ensures ∙ ap pair_least low) in
    let size : c.loop-level.levels.len ≡ length items = search rules in
    let after = joined_set items c.split_at_mut-below.result.0.now c.split_at_mut-below.result.1.now c.loop-level.levels.len j w size within (c.split_at_mut-below.ensures.front ∙ ap (take j) whole) (c.split_at_mut-below.ensures.back ∙ ap (drop j) whole) in
    rw after (record {
      count = length-set items j w ∙ c.loop-level.invariant.count;
      done = λ k under. rw (lists_of-set items j w) (done-more (lists_of items) j w.items (level_at old 0) row_within c.loop-level.invariant.done row k under);
      ahead = λ k above. rw (lists_of-set items j w) (ahead-other (lists_of items) j k w.items (level_at old k) above (c.loop-level.invariant.ahead k (let e : j ≤ k = omega (arith, above) in e)));
    })

pub bounds-above-0 : goal.bounds-above-0
bounds-above-0 c = grind (arith, common_steps)
