use Rattle.std.proofs.Common.{length}
use Rattle.cql_eval.specs.Shown.{AreLeft, next_of}
use Rattle.cql_eval.specs.Passing.{HasPassed}
use Rattle.cql_eval.proofs.passing.pass.Given as goal

-- the runs came to the next instant that is left
abbrev pub invariant-loop-later : goal.invariant-loop-later
invariant-loop-later l = record {
  passed : HasPassed l.pin (next_of l.left l.pin.next) l.runs l.passing;
  left : AreLeft l.pin (next_of l.left l.pin.next) l.left;
}

abbrev pub decreases-loop-later : goal.decreases-loop-later
decreases-loop-later l = length l.left
