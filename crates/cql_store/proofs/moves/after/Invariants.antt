use Rattle.std.proofs.Common.{◌≡◌, take, drop}
use Rattle.cql_window.specs.Coming.{with_all}
use Rattle.cql_store.proofs.moves.after.Given as goal

abbrev pub invariant-loop-row : goal.invariant-loop-row
invariant-loop-row l =
    (goal.iterator-loop-row).can_next l.row-iterator ×
    (goal.iterator-loop-row).is_finite l.row-iterator ×
    (with_all l.columns l.count l.own l.row-iterator ≡ with_all l.columns l.count l.kept (take l.ahead (drop l.from l.rows)))
