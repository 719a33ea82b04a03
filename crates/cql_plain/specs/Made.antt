-- Rows that items made of rows, kept.
use Rattle.std.specs.Prelude.{◌≡◌, List, Some}
use Rattle.std.specs.List.{AllByRecursion}
use Rattle.cql_plan.specs.declared.node.Item.{Item}
use Rattle.cql_algebra.specs.Shape.{items_on}
use Rattle.cql_plain.specs.declared.made.Made.{Made}

-- these items made each row of the one that came
abbrev pub AreMade : List Item → List Made → Type 0
AreMade items kept = AllByRecursion (λ m. items_on items m.came ≡ Some m.row) kept
