use Rattle.std.proofs.lemmas.Grind.{common_steps}
use Rattle.std.proofs.Common.{rules, arith, ◌≡◌, ◌<◌, ◌≤◌, ◌+◌, ◌-◌, ◌∙◌, ◌++◌, ◌∷◌, [], length, get_or, ap, sym, subst, vec_len, vec_capacity}
use Rattle.cql_bag.specs.Levels.{pair_least, lists_of, level_at, put, IsTower}
use Rattle.cql_bag.proofs.Pairs.{put-push}
use Rattle.cql_bag.proofs.Towers.{level_at-item, length-lists_of, lists_of-push}
use Rattle.cql_bag.proofs.Rising.{top-few, tower-more, tower-pairs, length-put_end}
use Rattle.cql_bag.proofs.min_tree.MinTree.push.Goals as goal

pub push_reserved-requires-then-len-gt1-2 : goal.push_reserved-requires-then-len-gt1-2
push_reserved-requires-then-len-gt1-2 c =
    let room : vec_len c.reserve.new.self + 1 ≤ vec_capacity c.reserve.new.self = search rules in
    omega (arith, room, c.put_all.ensures.len, c.put_all.ensures.capacity)

pub invariant_of-self-then-len-gt1 : goal.invariant_of-self-then-len-gt1
invariant_of-self-then-len-gt1 c =
    let old = lists_of c.reserve.new.self.items in
    let items = c.put_all.new.levels.items in
    let now = lists_of items in
    let ys = put (level_at old 0) c.len-index.result c.args.number in
    let some : 0 < length items = search rules in
    let same : old ≡ lists_of c.self.inside.levels.items = ap lists_of c.reserve.ensures.items ∙ c.make_room.ensures.same in
    let start = c.reserve.new.self.items in
    let low = c.index.result.now in
    let any : 0 < length start = search rules in
    let low_at : low ≡ get_or start 0 low = search rules in
    let low_is : level_at old 0 ≡ low.items = level_at-item start 0 low any low_at in
    let low_len : c.len-index.result ≡ length low.items = search rules in
    let index : c.len-index.result ≡ length (level_at old 0) = low_len ∙ sym (ap length low_is) in
    let v = c.index-top.result.now in
    let at : v ≡ get_or items (length items - 1) v = search rules in
    let long : length now ≡ length items = length-lists_of items in
    let some_now : 0 < length now = omega (arith, some, long) in
    let top : level_at now (length now - 1) ≡ v.items = rw long (level_at-item items (length items - 1) v (omega (arith, some)) at) in
    let count : length now ≡ length old = long ∙ c.put_all.ensures.count ∙ sym (length-lists_of start) in
    let few : length (level_at now (length now - 1)) ≤ 2 = top-few old now ys (subst IsTower (sym same) c.self.invariant) count some_now c.put_all.ensures.pairs (let e : length ys ≡ length (level_at old 0) + 1 = length-put_end (level_at old 0) c.len-index.result c.args.number index in omega (arith, e)) in
    let size : 1 < length v.items = search rules in
    let two : 1 < length (level_at now (length now - 1)) = omega (arith, size, ap length top) in
    let pair : c.pair_at.result ≡ get_or (pair_least (level_at now (length now - 1))) 0 0 = rw top (c.pair_at.ensures ∙ ap (λ l. get_or (pair_least l) 0 0) c.deref.ensures.value) in
    let grown = tower-more now ys c.pair_at.result some_now c.put_all.ensures.pairs few two pair in
    let row : c.push_reserved-then-len-gt1.new.self.items ≡ c.pair_at.result ∷ [] = search rules in
    let is : lists_of c.push_reserved-then-len-gt1-2.new.self.items ≡ now ++ (c.pair_at.result ∷ []) ∷ [] = ap lists_of c.push_reserved-then-len-gt1-2.ensures.items ∙ lists_of-push items c.push_reserved-then-len-gt1.new.self (c.pair_at.result ∷ []) row in
    subst IsTower (sym is) grown.0

pub invariant_of-self-else-len-gt1 : goal.invariant_of-self-else-len-gt1
invariant_of-self-else-len-gt1 c =
    let items = c.put_all.new.levels.items in
    let now = lists_of items in
    let ys = put (level_at (lists_of c.reserve.new.self.items) 0) c.len-index.result c.args.number in
    let count : c.len-count.result ≡ length items = search rules in
    let v = c.index-top.result.now in
    let some : 0 < length items = search rules in
    let at : v ≡ get_or items (length items - 1) v = search rules in
    let top : level_at now (length items - 1) ≡ v.items = level_at-item items (length items - 1) v (omega (arith, some)) at in
    let few : length v.items ≤ 1 = search rules in
    let long : length now ≡ length items = length-lists_of items in
    let short : length (level_at now (length now - 1)) ≤ 1 = rw long (let e : length (level_at now (length items - 1)) ≡ length v.items = ap length top in omega (arith, e, few)) in
    tower-pairs now ys c.put_all.ensures.pairs short

pub returns-then-len-gt1 : goal.returns-then-len-gt1
returns-then-len-gt1 c =
    let old = lists_of c.reserve.new.self.items in
    let items = c.put_all.new.levels.items in
    let now = lists_of items in
    let ys = put (level_at old 0) c.len-index.result c.args.number in
    let some : 0 < length items = search rules in
    let same : old ≡ lists_of c.self.inside.levels.items = ap lists_of c.reserve.ensures.items ∙ c.make_room.ensures.same in
    let start = c.reserve.new.self.items in
    let low = c.index.result.now in
    let any : 0 < length start = search rules in
    let low_at : low ≡ get_or start 0 low = search rules in
    let low_is : level_at old 0 ≡ low.items = level_at-item start 0 low any low_at in
    let low_len : c.len-index.result ≡ length low.items = search rules in
    let index : c.len-index.result ≡ length (level_at old 0) = low_len ∙ sym (ap length low_is) in
    let v = c.index-top.result.now in
    let at : v ≡ get_or items (length items - 1) v = search rules in
    let long : length now ≡ length items = length-lists_of items in
    let some_now : 0 < length now = omega (arith, some, long) in
    let top : level_at now (length now - 1) ≡ v.items = rw long (level_at-item items (length items - 1) v (omega (arith, some)) at) in
    let count : length now ≡ length old = long ∙ c.put_all.ensures.count ∙ sym (length-lists_of start) in
    let few : length (level_at now (length now - 1)) ≤ 2 = top-few old now ys (subst IsTower (sym same) c.self.invariant) count some_now c.put_all.ensures.pairs (let e : length ys ≡ length (level_at old 0) + 1 = length-put_end (level_at old 0) c.len-index.result c.args.number index in omega (arith, e)) in
    let size : 1 < length v.items = search rules in
    let two : 1 < length (level_at now (length now - 1)) = omega (arith, size, ap length top) in
    let pair : c.pair_at.result ≡ get_or (pair_least (level_at now (length now - 1))) 0 0 = rw top (c.pair_at.ensures ∙ ap (λ l. get_or (pair_least l) 0 0) c.deref.ensures.value) in
    let grown = tower-more now ys c.pair_at.result some_now c.put_all.ensures.pairs few two pair in
    let row : c.push_reserved-then-len-gt1.new.self.items ≡ c.pair_at.result ∷ [] = search rules in
    let is : lists_of c.push_reserved-then-len-gt1-2.new.self.items ≡ now ++ (c.pair_at.result ∷ []) ∷ [] = ap lists_of c.push_reserved-then-len-gt1-2.ensures.items ∙ lists_of-push items c.push_reserved-then-len-gt1.new.self (c.pair_at.result ∷ []) row in
    ap (λ l. level_at l 0) is ∙ grown.1 ∙ put-push (level_at old 0) c.len-index.result c.args.number index ∙ ap (λ l. level_at l 0 ++ c.args.number ∷ []) same ∙ ap (λ l. l ++ c.args.number ∷ []) c.self.view_is

pub returns-else-len-gt1 : goal.returns-else-len-gt1
returns-else-len-gt1 c =
    let old = lists_of c.reserve.new.self.items in
    let items = c.put_all.new.levels.items in
    let some : 0 < length items = search rules in
    let same : old ≡ lists_of c.self.inside.levels.items = ap lists_of c.reserve.ensures.items ∙ c.make_room.ensures.same in
    let start = c.reserve.new.self.items in
    let low = c.index.result.now in
    let any : 0 < length start = search rules in
    let low_at : low ≡ get_or start 0 low = search rules in
    let low_is : level_at old 0 ≡ low.items = level_at-item start 0 low any low_at in
    let low_len : c.len-index.result ≡ length low.items = search rules in
    let index : c.len-index.result ≡ length (level_at old 0) = low_len ∙ sym (ap length low_is) in
    let long : length (lists_of items) ≡ length items = length-lists_of items in
    let first : level_at (lists_of items) 0 ≡ put (level_at old 0) c.len-index.result c.args.number = c.put_all.ensures.pairs 0 (omega (arith, some, long)) in
    first ∙ put-push (level_at old 0) c.len-index.result c.args.number index ∙ ap (λ l. level_at l 0 ++ c.args.number ∷ []) same ∙ ap (λ l. l ++ c.args.number ∷ []) c.self.view_is

pub invariant_of-self-then-count-eq0 : goal.invariant_of-self-then-count-eq0
invariant_of-self-then-count-eq0 c = grind (arith, common_steps)

pub put_all-requires-clause-index : goal.put_all-requires-clause-index
put_all-requires-clause-index c = grind (arith, common_steps)

pub returns-then-count-eq0 : goal.returns-then-count-eq0
returns-then-count-eq0 c = grind (arith, common_steps)

pub put_all-requires-clause-tower : goal.put_all-requires-clause-tower
put_all-requires-clause-tower c = grind (arith, common_steps)

pub push_reserved-requires-then-len-gt1 : goal.push_reserved-requires-then-len-gt1
push_reserved-requires-then-len-gt1 c = grind (arith, common_steps)

pub index-top-requires : goal.index-top-requires
index-top-requires c = grind (arith, common_steps)

pub push_reserved-requires-then-count-eq0 : goal.push_reserved-requires-then-count-eq0
push_reserved-requires-then-count-eq0 c = grind (arith, common_steps)

pub pair_at-requires : goal.pair_at-requires
pair_at-requires c = grind (arith, common_steps)

pub index-requires : goal.index-requires
index-requires c = grind (arith, common_steps)

pub invariant_of-self-in_err-spare : goal.invariant_of-self-in_err-spare
invariant_of-self-in_err-spare c = grind (arith, common_steps)

pub overflow_sub-count : goal.overflow_sub-count
overflow_sub-count c = grind (arith, common_steps)
