-- What is told at an instant.
use Rattle.std.specs.Prelude.{Bool, true, false, ◌&&◌, List, [], ◌∷◌}
use Rattle.std.specs.Ordering.{is_eq}
use Rattle.cql_value.specs.Order.{row_cmp}
use Rattle.cql_value.specs.declared.value.Value.{Value}
use Rattle.cql_plan.specs.declared.fault.Fault.{Fault as TheFault}
use Rattle.cql_plan.specs.declared.fault.Fault.TheVariants.{Oversize, Overflow}
use Rattle.cql_algebra.specs.declared.told.Output.{Output}
use Rattle.cql_algebra.specs.declared.told.Output.TheVariants.{Rows, Signed, Fault}
use Rattle.cql_bag.specs.Bag.{Counts, listing}
use Rattle.cql_plan.specs.Fit.{is_empty}

-- the rows of a bag are told
abbrev pub told : Counts → Output
told bag = Rows (listing bag)

-- no row is told; a fault isn't empty
abbrev pub tells_no_row : Output → Bool
tells_no_row (Rows rows) = is_empty rows
tells_no_row (Signed plus minus) = is_empty plus && is_empty minus
tells_no_row (Fault fault) = false

-- whether two lists have the same rows
abbrev pub same_rows : List (List Value) → List (List Value) → Bool
same_rows [] [] = true
same_rows [] (b ∷ bs) = false
same_rows (a ∷ as') [] = false
same_rows (a ∷ as') (b ∷ bs) = is_eq (row_cmp a b) && same_rows as' bs

abbrev pub same_fault : TheFault → TheFault → Bool
same_fault Oversize Oversize = true
same_fault Oversize Overflow = false
same_fault Overflow Oversize = false
same_fault Overflow Overflow = true

-- whether two outputs are the same
unfoldable pub same_output : Output → Output → Bool
same_output (Rows a) (Rows b) = same_rows a b
same_output (Rows a) (Signed plus minus) = false
same_output (Rows a) (Fault f) = false
same_output (Signed p m) (Rows b) = false
same_output (Signed p m) (Signed q n) = same_rows p q && same_rows m n
same_output (Signed p m) (Fault f) = false
same_output (Fault f) (Rows b) = false
same_output (Fault f) (Signed q n) = false
same_output (Fault f) (Fault g) = same_fault f g
