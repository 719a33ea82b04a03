-- What came and what left as a walk went on.
use Rattle.std.proofs.Common.{◌≡◌, ◌<◌, ℕ, List, ◌++◌, length, slice_set, sym, ap, subst, ◌∙◌, arith}
use Rattle.std.proofs.lemmas.Grind.{common_steps}
use Rattle.std.proofs.lemmas.List.Sorted.{IsPermutation-append_comm, IsPermutation-sym, IsPermutation-trans}
use Rattle.cql_value.specs.Element.{Element}
use Rattle.cql_value.specs.declared.schema.ColumnType.{ColumnType}
use Rattle.cql_window.specs.declared.span.Moved.{Moved}
use Rattle.cql_window.specs.Span.{rows_in, rows_left}
use Rattle.cql_window.specs.Span.{rows_of as rows_pinned}
use Rattle.cql_window.specs.Walk.{IsExchange}
use Rattle.cql_bag.specs.Bag.{Counts}
use Rattle.cql_ops.specs.Bench.{BenchModel}
use Rattle.cql_ops.specs.Running.{contents_of}
use Rattle.cql_eval.specs.Pin.{PinModel, AreOf}
use Rattle.cql_eval.specs.Shown.{HasPushed}
use Rattle.cql_eval.specs.Projected.{ProjectedWalkModel, ProjectedWindow, projected_rows, projected_by, IsMove}
use Rattle.cql_eval.proofs.Holding.{came_columns, exchange_columns, left_columns, now_columns}

-- what came and what left, as the walk sees them
abbrev pub came_of : ProjectedWalkModel → Moved → List Element
came_of k m = projected_by k (rows_in m.came (rows_pinned k.pin.window))

abbrev pub left_of : ProjectedWalkModel → Moved → List Element
left_of k m = projected_by k (rows_left m (rows_pinned k.pin.window))

-- the part of those that left
pub left_is : (k : ProjectedWalkModel) (m : Moved) (near part : List Element) → near ≡ m.gone.items → part ≡ near ++ rows_in m.left (rows_pinned k.pin.window) → part ≡ rows_left m (rows_pinned k.pin.window)
left_is k m near part gone is = is ∙ ap (λ l. l ++ rows_in m.left (rows_pinned k.pin.window)) gone

-- a walk whose rows have these columns went on, and so do those that came and those that left
pub record HasColumns (columns : List ColumnType) (k : ProjectedWalkModel) (m : Moved) : Type 0 where
  pub came : AreOf columns (came_of k m)
  pub left : AreOf columns (left_of k m)
  pub now : AreOf columns k.held

pub columns_of : (columns : List ColumnType) (v : ProjectedWindow) (before : List Element) (k : ProjectedWalkModel) (m : Moved) → AreOf columns (projected_rows v) → AreOf columns before → k.pin ≡ v → IsMove before m k → HasColumns columns k m
columns_of columns v before k m rows held pin move =
    let came : AreOf columns (came_of k m) = came_columns columns k.pin.projection m.came.from m.came.to (rows_pinned k.pin.window) (subst (λ w. AreOf columns (projected_rows w)) (sym pin) rows) in
    let both : AreOf columns (left_of k m ++ k.held) = exchange_columns columns before (came_of k m) (left_of k m) k.held held came move.moved in
    record { came = came; left = left_columns columns (left_of k m) k.held both; now = now_columns columns (left_of k m) k.held both }

-- the way back: what left comes, and what came leaves
pub backwards : (before came left now : List Element) → IsExchange before came left now → IsExchange now left came before
backwards before came left now moved =
    IsPermutation-trans (now ++ left) (left ++ now) (came ++ before) (IsPermutation-append_comm now left)
    (IsPermutation-trans (left ++ now) (before ++ came) (came ++ before) (IsPermutation-sym (before ++ came) (left ++ now) moved) (IsPermutation-append_comm before came))

-- the input is still one after its bag was changed
pub within_after : (p : PinModel) (i : ℕ) (bag : Counts) (o after : BenchModel) → HasPushed p i bag o after → i < length (contents_of p.plan o) → i < length (contents_of p.plan after)
within_after p i bag o after pushed lt =
    let contents : contents_of p.plan after ≡ slice_set (contents_of p.plan o) i bag = pushed.contents in
    grind (arith, common_steps)
