-- Windows of whole rows, seen through the projections of their inputs.
use Rattle.std.specs.Prelude.{ℕ, List, [], ◌∷◌, Option, Some, None}
use Rattle.cql_value.specs.Element.{Element}
use Rattle.cql_window.specs.Pin.{Pinned}
use Rattle.cql_window.specs.Span.{rows_of, rows_in, rows_left, IsWithin}
use Rattle.cql_window.specs.Walk.{IsExchange}
use Rattle.cql_window.specs.declared.span.Moved.{Moved}
use Rattle.cql_window.specs.Through.{narrowed_all}
use Rattle.cql_plan.specs.declared.plan.Input.{Input}
use Rattle.cql_eval.specs.Pin.{PinModel}
use Rattle.cql_window.specs.Window.{content}

-- a window, and the projection through which its rows are seen
pub record ProjectedWindow : Type 0 where
  pub window : Pinned
  pub projection : List ℕ

-- all its rows, through the projection
abbrev pub projected_rows : ProjectedWindow → List Element
projected_rows v = narrowed_all v.projection (rows_of v.window)

-- what it holds at the cursor, through the projection
abbrev pub projected_content : ℕ → ProjectedWindow → List Element
projected_content c v = narrowed_all v.projection (content v.window.window c v.window.content v.window.unseen)

-- the windows of some inputs, each through its input's projection
abbrev pub windows_over : List Input → List Pinned → List ProjectedWindow
windows_over [] ws = []
windows_over (i ∷ is) [] = []
windows_over (i ∷ is) (w ∷ ws) = record { window = w; projection = i.projection } ∷ windows_over is ws

-- those of a pin
abbrev pub projected_windows : PinModel → List ProjectedWindow
projected_windows p = windows_over p.plan.inputs p.windows

-- a walk over such a window: the cursor that was reached, and what the window holds there, through the projection
pub record ProjectedWalkModel : Type 0 where
  pub pin : ProjectedWindow
  pub cursor : ℕ
  pub held : List Element

-- at a cursor
abbrev pub reached : ℕ → ProjectedWindow → ProjectedWalkModel
reached c v = record { pin = v; cursor = c; held = projected_content c v }

-- before the first row
abbrev pub fresh : ProjectedWindow → ProjectedWalkModel
fresh v = record { pin = v; cursor = 0; held = [] }

-- before the first row, or at a cursor
abbrev pub started : Option ℕ → ProjectedWindow → ProjectedWalkModel
started None = fresh
started (Some c) = reached c

-- whole rows as a walk sees them
abbrev pub projected_by : ProjectedWalkModel → List Element → List Element
projected_by k xs = narrowed_all k.pin.projection xs

-- so a walk went on from what it held: what came and what left, all of it in the window's pin or told
pub record IsMove (before : List Element) (m : Moved) (k : ProjectedWalkModel) : Type 0 where
  pub came : IsWithin m.came (rows_of k.pin.window)
  pub left : IsWithin m.left (rows_of k.pin.window)
  pub moved : IsExchange before (projected_by k (rows_in m.came (rows_of k.pin.window))) (projected_by k (rows_left m (rows_of k.pin.window))) k.held
