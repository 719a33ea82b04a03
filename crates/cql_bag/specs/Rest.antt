-- Rows that are struck off against others, where both ascend.
use Rattle.std.specs.Prelude.{List, [], ◌∷◌, Bool, true, false, if◌then◌else◌}
use Rattle.cql_value.specs.Order.{row_cmp}
use Rattle.cql_value.specs.declared.value.Value.{Value}
use Rattle.cql_bag.specs.Bag.{by_order}

-- what is left behind the rows below a row, and behind one that is the row, if there is one; and whether there is
abbrev pub strike : List Value → List (List Value) → List (List Value) × Bool
strike row [] = ([], false)
strike row (y ∷ ys) = by_order (row_cmp y row) (strike row ys) (ys, true) (y ∷ ys, false)

-- the rows of which none is left among the others, where each is struck off against one of them
abbrev pub rest_rows : List (List Value) → List (List Value) → List (List Value)
rest_rows [] others = []
rest_rows (x ∷ xs) others = if (strike x others).1 then rest_rows xs (strike x others).0 else x ∷ rest_rows xs (strike x others).0
