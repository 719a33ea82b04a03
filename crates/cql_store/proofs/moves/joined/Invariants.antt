use Rattle.std.proofs.Common.{◌≡◌, ◌++◌, take, drop}
use Rattle.cql_store.proofs.moves.joined.Given as goal

abbrev pub invariant-loop-row : goal.invariant-loop-row
invariant-loop-row l =
    (goal.iterator-loop-row).can_next l.row-iterator ×
    (goal.iterator-loop-row).is_finite l.row-iterator ×
    (l.all.items ++ l.row-iterator ≡ l.kept ++ take l.ahead (drop l.from l.rows))
