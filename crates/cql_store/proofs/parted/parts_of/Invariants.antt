use Rattle.std.proofs.Common.{◌≡◌, length, take}
use Rattle.std.specs.Arc.{arc_value}
use Rattle.cql_store.specs.Parts.{AreParted}
use Rattle.cql_store.proofs.parted.parts_of.Given as goal

-- the rows so far
abbrev pub invariant-loop-index : goal.invariant-loop-index
invariant-loop-index l = (l.index-end ≡ length (arc_value l.rows)) × AreParted l.columns (take l.index (arc_value l.rows)) (arc_value l.parts)
