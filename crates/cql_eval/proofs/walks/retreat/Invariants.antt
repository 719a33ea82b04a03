use Rattle.std.proofs.Common.{◌≡◌, ◌++◌, length, map, drop}
use Rattle.cql_ops.specs.Running.{told_of}
use Rattle.cql_eval.specs.Projected.{projected_windows, reached}
use Rattle.cql_eval.specs.Shown.{IsReady}
use Rattle.cql_eval.proofs.Back.{returning}
use Rattle.cql_eval.proofs.walks.retreat.Given as goal

-- the inputs whose walks are left hold what the windows do at the end, and the others what they held at the cursor
abbrev pub invariant-loop-walk : goal.invariant-loop-walk
invariant-loop-walk g l = record {
  whole : l.walks.items ++ drop (length l.walks.items) (map (reached l.cursor) (projected_windows l.pin)) ≡ map (reached l.cursor) (projected_windows l.pin);
  ready : IsReady l.pin l.pin.next (returning l.pin.next (map (reached l.cursor) (projected_windows l.pin)) l.walks.items) l.bench;
  told : told_of l.pin.plan l.bench ≡ told_of l.pin.plan l.fn.bench;
}

abbrev pub decreases-loop-walk : goal.decreases-loop-walk
decreases-loop-walk g l = length l.walks.items
