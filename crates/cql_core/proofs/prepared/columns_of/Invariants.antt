use Rattle.std.proofs.Common.{◌≡◌, ◌++◌, drop}
use Rattle.std.specs.Prelude.{option_map}
use Rattle.cql_core.specs.Columns.{columns_of}
use Rattle.cql_core.proofs.prepared.columns_of.Given as goal

-- the columns so far and those that are left are all
abbrev pub invariant-loop-column : goal.invariant-loop-column
invariant-loop-column l = option_map (λ rest. l.all.items ++ rest) (columns_of (drop l.column-index l.columns)) ≡ columns_of l.columns
