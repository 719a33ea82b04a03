-- What is left of a tree that was taken apart.
use Rattle.std.specs.Prelude.{◌≡◌, List, [], ◌∷◌, ◌++◌}
use Rattle.std.specs.Arc.{arc_value}
use Rattle.cql_chunks.specs.declared.seq.Numbered.{Numbered}
use Rattle.cql_chunks.specs.declared.seq.Parts.{Parts}
use Rattle.cql_chunks.specs.declared.seq.TakenTree.{TakenTree}
use Rattle.cql_chunks.specs.declared.seq.TakenTree.TheVariants.{Leaf, Fork}

-- a row between its two lists
abbrev pub listed_in : Parts → List Numbered
listed_in p = arc_value p.left ++ p.own ∷ arc_value p.right

-- the list of the tree
abbrev pub listed_of : TakenTree → List Numbered
listed_of (Leaf t) = []
listed_of (Fork p) = listed_in p

-- a tree that can't be taken apart has no row
abbrev pub IsBare : TakenTree → Type 0
IsBare (Leaf t) = arc_value t ≡ []
IsBare (Fork p) = Unit {0}
