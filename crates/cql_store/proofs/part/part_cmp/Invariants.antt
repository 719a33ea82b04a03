use Rattle.std.proofs.Common.{◌≡◌, drop}
use Rattle.cql_window.specs.Key.{key_of, key_cmp}
use Rattle.cql_store.proofs.part.part_cmp.Given as goal

-- the columns so far tie
abbrev pub invariant-loop-column : goal.invariant-loop-column
invariant-loop-column l = key_cmp (key_of l.columns l.a) (key_of l.columns l.b) ≡ key_cmp (key_of (drop l.column-index l.columns) l.a) (key_of (drop l.column-index l.columns) l.b)
