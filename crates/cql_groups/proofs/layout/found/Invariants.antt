use Rattle.std.proofs.Common.{take}
use Rattle.std.specs.List.{AllByRecursion}
use Rattle.cql_groups.specs.Layouts.{IsOther}
use Rattle.cql_groups.proofs.layout.found.Given as goal

-- it isn't among those so far
abbrev pub invariant-loop-i : goal.invariant-loop-i
invariant-loop-i l = AllByRecursion (IsOther l.one) (take l.i l.asked)
