-- What a tree of numbered rows lists.
use Rattle.std.specs.Prelude.{◌≡◌, List, [], ◌∷◌, ◌++◌, length, Bool, false}
use Rattle.std.specs.List.{AllByRecursion}
use Rattle.std.specs.Arc.{arc_value}
use Rattle.cql_value.specs.Element.{Element}
use Rattle.cql_chunks.specs.declared.seq.Numbered.{Numbered}
use Rattle.cql_chunks.specs.declared.seq.SeqNode.{SeqNode}
use Rattle.cql_chunks.specs.declared.seq.SeqNode.TheVariants.{Leaf, Fork}

-- from left to right
abbrev pub listed : SeqNode → List Numbered
listed Leaf = []
listed (Fork l x count height r) = arc_value l ++ x ∷ arc_value r

-- the count is right
abbrev pub IsCounted : SeqNode → Type 0
IsCounted Leaf = Unit {0}
IsCounted (Fork l x count height r) = count ≡ length (arc_value l ++ x ∷ arc_value r)

abbrev pub row_in : Numbered → Element
row_in x = x.row

-- where one has not P, no later one has
abbrev pub IsDown : (Numbered → Bool) → List Numbered → Type 0
IsDown p [] = Unit {0}
IsDown p (x ∷ xs) = (p x ≡ false → AllByRecursion (λ y. p y ≡ false) xs) × IsDown p xs
