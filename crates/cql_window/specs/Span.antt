-- Elements of a pin, which has its content and then the unseen ones.
use Rattle.std.specs.Prelude.{◌≤◌, List, ◌++◌, length}
use Rattle.cql_value.specs.Element.{Element}
use Rattle.cql_window.specs.declared.span.Moved.{Moved}
use Rattle.cql_window.specs.declared.span.Span.{Span}
use Rattle.cql_window.specs.Laws.{between}
use Rattle.cql_window.specs.Pin.{Pinned}

-- all of them
abbrev pub rows_of : Pinned → List Element
rows_of p = p.content ++ p.unseen

-- those between two indices
abbrev pub rows_in : Span → List Element → List Element
rows_in s xs = between s.from s.to xs

-- both indices are among them
abbrev pub IsWithin : Span → List Element → Type 0
IsWithin s xs = (s.from ≤ s.to) × (s.to ≤ length xs)

-- those that left
abbrev pub rows_left : Moved → List Element → List Element
rows_left m xs = m.gone.items ++ rows_in m.left xs
