use Rattle.std.proofs.Common.{◌≡◌, ◌++◌, map, take, drop}
use Rattle.cql_groups.specs.Parts.{part_changed}
use Rattle.cql_groups.proofs.accumulator.change_parts.Given as goal

-- the parts so far are changed, and the others are as they were
abbrev pub invariant-loop-i : goal.invariant-loop-i
invariant-loop-i l = l.parts.items ≡ map (part_changed l.change) (take l.i l.fn.parts.items) ++ drop l.i l.fn.parts.items
