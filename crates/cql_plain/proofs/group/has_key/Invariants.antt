use Rattle.std.proofs.Common.{◌≡◌, drop}
use Rattle.cql_algebra.specs.Shape.{key_of}
use Rattle.cql_plain.proofs.group.has_key.Given as goal

-- if the columns that are left give what is left of the key, all of them give the key
abbrev pub invariant-loop-column : goal.invariant-loop-column
invariant-loop-column l = key_of (drop l.column-index l.columns) l.row ≡ l.left → key_of l.columns l.row ≡ l.key
