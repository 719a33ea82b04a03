-- The laws of projections.
use Rattle.std.specs.Prelude.{◌≡◌, ℕ, List, ◌++◌, length}
use Rattle.std.specs.List.{AllByRecursion}
use Rattle.cql_value.specs.declared.value.Value.{Value}
use Rattle.cql_value.specs.Element.{Element}
use Rattle.cql_window.specs.declared.window.Window.{Window}
use Rattle.cql_window.specs.Window.{content, beyond}
use Rattle.cql_window.specs.Projection.{projected, whole_projection, AreWithin}
use Rattle.cql_window.specs.Through.{narrowed_all, wide_window, PartsWithin, HasProjection}

-- the projection of a row onto all its columns is the row
abbrev pub IsWholeProjectionLaw : Type 0
IsWholeProjectionLaw = (row : List Value) → projected row (whole_projection (length row)) ≡ row

-- a projection of a projection is one of the whole row
abbrev pub IsChainLaw : Type 0
IsChainLaw = (row : List Value) (projection columns : List ℕ) → AreWithin projection (length row) → projected (projected row projection) columns ≡ projected row (projected projection columns)

-- over all columns a window is as it is over the whole row
abbrev pub IsWideLaw : Type 0
IsWideLaw = (w : Window) (many : ℕ) → PartsWithin w many → wide_window (whole_projection many) w ≡ w

-- over columns that are chosen of chosen columns a window is widened in two steps or in one
abbrev pub IsTwiceLaw : Type 0
IsTwiceLaw = (projection columns : List ℕ) (w : Window) → AreWithin columns (length projection) → PartsWithin w (length columns) → wide_window projection (wide_window columns w) ≡ wide_window (projected projection columns) w

-- at every cursor, a window over a projection's columns holds of the rows through the projection what the window over the whole row holds of whole rows, through the projection
pub record NarrowLaw (projection : List ℕ) (w : Window) (c : ℕ) (settled xs : List Element) : Type 0 where
  pub content : content w c (narrowed_all projection settled) (narrowed_all projection xs) ≡ narrowed_all projection (content (wide_window projection w) c settled xs)
  pub beyond : beyond w c (narrowed_all projection xs) ≡ narrowed_all projection (beyond (wide_window projection w) c xs)

-- so it is for every window, where each row has the columns
abbrev pub IsNarrowLaw : Type 0
IsNarrowLaw = (projection : List ℕ) (w : Window) (c : ℕ) (settled xs : List Element) → AllByRecursion (HasProjection projection) (settled ++ xs) → NarrowLaw projection w c settled xs
