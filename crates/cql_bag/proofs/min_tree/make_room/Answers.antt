use Rattle.std.proofs.lemmas.Grind.{common_steps}
use Rattle.std.proofs.Common.{rules, arith, ◌<◌, ◌≤◌, ◌+◌, ◌∙◌, length, vec_len, vec_capacity}
use Rattle.std.proofs.lemmas.List.{length-set}
use Rattle.cql_bag.proofs.Towers.{lists_of-same, room-more}
use Rattle.cql_bag.proofs.min_tree.make_room.Goals as goal

pub returns-in_err-reserve-clause-same : goal.returns-in_err-reserve-clause-same
returns-in_err-reserve-clause-same c =
    let items = c.loop-level.levels.items in
    let j = c.loop-level.level in
    let within : j < length items = search rules in
    lists_of-same items j c.index_mut.result.now c.reserve.new.self within c.index_mut.ensures.value c.reserve.ensures.items ∙ c.loop-level.invariant.same

pub loop-level-preserved : goal.loop-level-preserved
loop-level-preserved c =
    let items = c.loop-level.levels.items in
    let j = c.loop-level.level in
    let w = c.reserve.new.self in
    let within : j < length items = search rules in
    let more : vec_len w + 1 ≤ vec_capacity w = search rules in
    let here : vec_len w < vec_capacity w = omega (arith, more) in
    record {
      count = length-set items j w ∙ c.loop-level.invariant.count;
      same = lists_of-same items j c.index_mut.result.now w within c.index_mut.ensures.value c.reserve.ensures.items ∙ c.loop-level.invariant.same;
      room = room-more items j w within c.loop-level.invariant.room here;
    }

pub returns-clause-room : goal.returns-clause-room
returns-clause-room c = grind (arith, common_steps)
