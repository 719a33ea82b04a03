use Rattle.std.proofs.Common.{◌≡◌, take}
use Rattle.cql_window.specs.Projection.{projected}
use Rattle.cql_window.proofs.copies.copies_at.Given as goal

-- the values in the columns so far
abbrev pub invariant-loop-column : goal.invariant-loop-column
invariant-loop-column g l = l.copies.items ≡ projected l.values (take l.column-index l.projection)
