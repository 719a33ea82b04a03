use Rattle.std.proofs.Common.{◌≡◌, None}
use Rattle.std.specs.Option.{option_copied}
use Rattle.cql_algebra.specs.Shape.{best_from}
use Rattle.cql_plain.proofs.group.best_of.Given as goal

-- the best so far and those that are left
abbrev pub invariant-loop-row : goal.invariant-loop-row
invariant-loop-row l = best_from l.least l.column (option_copied l.best) l.row-iterator ≡ best_from l.least l.column None l.bag
