use Rattle.std.proofs.Common.{◌≡◌, ◌++◌}
use Rattle.cql_window.specs.Laws.{between}
use Rattle.cql_window.proofs.walk.rows_between.Given as goal

-- with the rows that are left it is the whole
abbrev pub invariant-loop-row : goal.invariant-loop-row
invariant-loop-row l =
    (goal.iterator-loop-row).can_next l.row-iterator ×
    (goal.iterator-loop-row).is_finite l.row-iterator ×
    (l.rows.items ++ l.row-iterator ≡ between l.from l.to (l.pin.content ++ l.pin.unseen))
