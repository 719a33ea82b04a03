use Rattle.std.proofs.Common.{◌≡◌, ◌++◌, map, drop}
use Rattle.std.specs.Prelude.{slice_get}
use Rattle.cql_algebra.specs.Shape.{present, key_of}
use Rattle.cql_plain.proofs.group.choose.Given as goal

-- the values so far and those of the columns that are left
abbrev pub invariant-loop-column : goal.invariant-loop-column
invariant-loop-column l = l.values.items ++ present (map (slice_get l.row) (drop l.column-index l.columns)) ≡ l.fn.values.items ++ key_of l.columns l.row
