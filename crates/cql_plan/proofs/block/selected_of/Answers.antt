use Rattle.std.proofs.Common.{◌≡◌, ◌∙◌, List, sym, arith}
use Rattle.std.proofs.lemmas.Grind.{common_steps}
use Rattle.std.proofs.lemmas.List.{map-id}
use Rattle.std.proofs.lemmas.Iterator.Adapters.{YieldsList-from_vec}
use Rattle.std.proofs.lemmas.Iterator.Consumers.{YieldsList-end}
use Rattle.cql_value.specs.declared.schema.ColumnType.{ColumnType}
use Rattle.cql_plan.specs.declared.node.Item.{Item}
use Rattle.cql_plan.specs.declared.item.TypedItem.{TypedItem}
use Rattle.cql_plan.specs.declared.block.Selected.{Selected}
use Rattle.cql_plan.specs.Typing.{shown_in, kinds_in, selected_of}
use Rattle.cql_plan.proofs.block.selected_of.Goals as goal

pub loop-typed-preserved : goal.loop-typed-preserved
loop-typed-preserved c = grind (arith, common_steps)

-- what the items up to the last show and give
made : (typed all : List TypedItem) (items : List Item) (kinds : List ColumnType) → typed ≡ all → items ≡ shown_in typed → kinds ≡ kinds_in typed → ◌≡◌ {A = Selected} (record { items = items; kinds = kinds }) (selected_of all)
made typed all items kinds is shown given = cc

pub returns : goal.returns
returns c =
    let given = c.into_iter-typed-iterator.ensures.into_iter_gives in
    let road = YieldsList-from_vec {s = c.into_iter-typed-iterator.result} c.args.typed.items given.0 (given.1 ∙ c.args.typed.ok.0) in
    let all = (YieldsList-end road c.loop-typed.yielded c.loop-typed.typed-iterator c.loop-typed.yielded_by c.next.result c.next.new.self c.in-None.is c.next.ensures.steps).0 in
    made c.loop-typed.yielded c.args.typed.items c.loop-typed.items c.loop-typed.kinds (sym (map-id c.loop-typed.yielded) ∙ all) c.loop-typed.invariant.0 c.loop-typed.invariant.1
