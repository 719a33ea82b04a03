use Rattle.std.proofs.Common.{◌≡◌, drop}
use Rattle.std.specs.List.{list_any}
use Rattle.cql_groups.specs.Parts.{is_outside}
use Rattle.cql_groups.proofs.accumulator.some_outside.Given as goal

-- the parts that are left decide
abbrev pub invariant-loop-part : goal.invariant-loop-part
invariant-loop-part l = list_any is_outside (drop l.part-index l.parts) ≡ list_any is_outside l.parts
