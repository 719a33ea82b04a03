-- Windows through projections: what a store keeps are whole rows, and what a tenant sees are the values in its columns.
use Rattle.std.specs.Prelude.{ℕ, List, map, length}
use Rattle.cql_value.specs.Element.{Element}
use Rattle.cql_window.specs.declared.window.Window.{Window}
use Rattle.cql_window.specs.declared.window.Window.TheVariants.{Range, Rows, All as all, Parts}
use Rattle.cql_window.specs.Pin.{Pinned}
use Rattle.cql_window.specs.Window.{content}
use Rattle.cql_window.specs.Projection.{projected, AreWithin}

-- an element with the values in a projection's columns
abbrev pub narrowed : List ℕ → Element → Element
narrowed projection x = record x { row = projected x.row projection }

-- elements with the values in a projection's columns
abbrev pub narrowed_all : List ℕ → List Element → List Element
narrowed_all projection xs = map (narrowed projection) xs

-- a window over a projection's columns, as one over the whole row: the columns by which it parts are the whole row's
abbrev pub wide_window : List ℕ → Window → Window
wide_window projection (Range len slide) = Range len slide
wide_window projection (Rows count slide) = Rows count slide
wide_window projection all = all
wide_window projection (Parts columns count) = Parts (projected projection columns) count

-- the columns by which a window parts are among so many
abbrev pub PartsWithin : Window → ℕ → Type 0
PartsWithin (Range len slide) many = Unit {0}
PartsWithin (Rows count slide) many = Unit {0}
PartsWithin all many = Unit {0}
PartsWithin (Parts columns count) many = AreWithin columns many

-- the element has a value in each column of a projection
abbrev pub HasProjection : List ℕ → Element → Type 0
HasProjection projection x = AreWithin projection (length x.row)

-- the pin of the values in a projection's columns, for a window over these
abbrev pub narrow_pinned : List ℕ → Window → Pinned → Pinned
narrow_pinned projection w p = record { window = w; content = narrowed_all projection p.content; unseen = narrowed_all projection p.unseen }
