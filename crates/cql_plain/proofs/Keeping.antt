-- Rows that items made, one more kept.
use Rattle.std.proofs.Common.{◌≡◌, List, [], ◌∷◌, ◌++◌, Some}
use Rattle.cql_plan.specs.declared.node.Item.{Item}
use Rattle.cql_algebra.specs.Shape.{items_on}
use Rattle.cql_plain.specs.Made.{AreMade}
use Rattle.cql_plain.specs.declared.made.Made.{Made}

pub made_more : (items : List Item) (kept : List Made) (m : Made) → AreMade items kept → items_on items m.came ≡ Some m.row → AreMade items (kept ++ m ∷ [])
made_more items [] m all is = (is, tt)
made_more items (first ∷ kept) m all is = (all.0, made_more items kept m all.1 is)
