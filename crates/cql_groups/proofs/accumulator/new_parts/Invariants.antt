use Rattle.std.proofs.Common.{◌≡◌, [], map, take}
use Rattle.cql_groups.specs.Parts.{part_of}
use Rattle.cql_groups.proofs.accumulator.new_parts.Given as goal

-- the parts of what is asked so far
abbrev pub invariant-loop-one : goal.invariant-loop-one
invariant-loop-one l = l.parts.items ≡ map (part_of []) (take l.one-index l.asked)
