use Rattle.std.proofs.lemmas.Grind.{common_steps}
use Rattle.std.proofs.Common.{rules, ◌≡◌, ◌<◌, ◌∙◌, length, set, sym, ap, refl, arith}
use Rattle.cql_bag.specs.Levels.{lists_of, level_at}
use Rattle.cql_bag.proofs.Towers.{level_at-item}
use Rattle.cql_bag.proofs.Marked.{length-changed_where, tower-changed, long-changed}
use Rattle.cql_bag.proofs.min_tree.MinTree.set_below.Goals as goal

pub pair_all-requires : goal.pair_all-requires
pair_all-requires c =
    let items = c.self.inside.levels.items in
    let v = c.index_mut.result.now in
    let w = c.set_low.new.level in
    let some : 0 < length items = search rules in
    let low : level_at (lists_of items) 0 ≡ v.items = level_at-item items 0 v some c.index_mut.ensures.value in
    let same : length w.items ≡ length (level_at (lists_of items) 0) = ap length c.set_low.ensures ∙ length-changed_where v.items c.args.bound c.args.number v.items ∙ ap length (sym low) in
    long-changed items (set items 0 w) w c.self.invariant refl same

pub invariant_of-self : goal.invariant_of-self
invariant_of-self c =
    let items = c.self.inside.levels.items in
    let v = c.index_mut.result.now in
    let w = c.set_low.new.level in
    let some : 0 < length items = search rules in
    let low : level_at (lists_of items) 0 ≡ v.items = level_at-item items 0 v some c.index_mut.ensures.value in
    let same : length w.items ≡ length (level_at (lists_of items) 0) = ap length c.set_low.ensures ∙ length-changed_where v.items c.args.bound c.args.number v.items ∙ ap length (sym low) in
    (tower-changed items (set items 0 w) c.pair_all.new.levels.items w c.self.invariant some refl same c.pair_all.ensures.count c.pair_all.ensures.pairs).0

pub returns : goal.returns
returns c = grind (arith, common_steps)

pub returns-then-is_empty : goal.returns-then-is_empty
returns-then-is_empty c = grind (arith, common_steps)
