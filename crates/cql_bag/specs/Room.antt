-- Rows that come and go, and the bags that they are added to and taken from.
use Rattle.std.specs.Prelude.{List, [], ◌∷◌, if◌then◌else◌}
use Rattle.cql_value.specs.declared.value.Value.{Value}
use Rattle.cql_bag.specs.Bag.{Counts, less_one}
use Rattle.cql_bag.specs.declared.change.Change.{Change}

-- the bag after some rows left, one by one
abbrev pub less_rows : List (List Value) → Counts → Counts
less_rows [] bag = bag
less_rows (row ∷ rows) bag = less_rows rows (less_one row bag)

-- the rows that come by changes
abbrev pub came_in : List Change → List (List Value)
came_in [] = []
came_in (c ∷ cs) = if c.plus then c.row ∷ came_in cs else came_in cs

-- the rows that go by changes
abbrev pub left_in : List Change → List (List Value)
left_in [] = []
left_in (c ∷ cs) = if c.plus then left_in cs else c.row ∷ left_in cs
