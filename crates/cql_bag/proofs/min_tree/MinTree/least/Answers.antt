use Rattle.std.proofs.Common.{rules, ◌≡◌, ◌<◌, ◌≤◌, ◌-◌, ◌∙◌, length, get_or, ap, sym, subst, Some, IfSome, arith}
use Rattle.std.specs.List.{All, Contains}
use Rattle.cql_bag.specs.Levels.{least_of, lists_of, level_at}
use Rattle.cql_bag.proofs.Towers.{least_of-item, item-short, least_of-none, none-empty, least_of-one}
use Rattle.std.proofs.lemmas.Grind.{get_or_default_zero, common_steps}
use Rattle.cql_bag.proofs.MinTreeLaws.{least_of-law}
use Rattle.cql_bag.proofs.min_tree.MinTree.least.Goals as goal

pub returns-then-is_empty-clause-value : goal.returns-then-is_empty-clause-value
returns-then-is_empty-clause-value c =
    let view : c.args.self.now ≡ level_at (lists_of c.self.inside.levels.items) 0 = search rules in
    let some : 0 < length c.self.inside.levels.items = search rules in
    let v = c.index-top.result.now in
    let at : v ≡ get_or c.self.inside.levels.items (length c.self.inside.levels.items - 1) v = search rules in
    let none : length v.items ≡ 0 = search rules in
    sym (ap least_of view ∙ least_of-item c.self.inside.levels.items v c.self.invariant some at ∙ least_of-none v.items none)

pub returns-then-is_empty-clause-none : goal.returns-then-is_empty-clause-none
returns-then-is_empty-clause-none c = none-empty c.args.self.now (sym (returns-then-is_empty-clause-value c))

pub returns-else-is_empty-clause-value : goal.returns-else-is_empty-clause-value
returns-else-is_empty-clause-value c =
    let view : c.args.self.now ≡ level_at (lists_of c.self.inside.levels.items) 0 = search rules in
    let some : 0 < length c.self.inside.levels.items = search rules in
    let v = c.index-top.result.now in
    let at : v ≡ get_or c.self.inside.levels.items (length c.self.inside.levels.items - 1) v = search rules in
    let one : 0 < length v.items = search rules in
    let read : c.index.result.now ≡ get_or v.items 0 0 = c.index.ensures ∙ get_or_default_zero v.items 0 c.index.result.now one in
    let short = item-short c.self.inside.levels.items v c.self.invariant some at in
    sym (ap least_of view ∙ least_of-item c.self.inside.levels.items v c.self.invariant some at ∙ least_of-one v.items short one ∙ ap Some (sym read))

pub returns-else-is_empty-clause-law : goal.returns-else-is_empty-clause-law
returns-else-is_empty-clause-law c =
    subst (λ o. IfSome o (λ m. All (λ x. m ≤ x) c.args.self.now × Contains c.args.self.now m)) (sym (returns-else-is_empty-clause-value c)) (least_of-law c.args.self.now)

pub returns-then-count-eq0-clause-none : goal.returns-then-count-eq0-clause-none
returns-then-count-eq0-clause-none c = grind (arith, common_steps)

pub index-requires : goal.index-requires
index-requires c = grind (arith, common_steps)

pub returns-then-count-eq0-clause-value : goal.returns-then-count-eq0-clause-value
returns-then-count-eq0-clause-value c = grind (arith, common_steps)
