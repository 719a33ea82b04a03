use Rattle.std.proofs.Common.{◌≡◌, length, map}
use Rattle.cql_chunks.specs.Seq.{row_in}
use Rattle.cql_store.specs.Parts.{AreNumbered}
use Rattle.cql_store.proofs.made.numbered.Given as goal

-- the rows so far, under their numbers
abbrev pub invariant-loop-row : goal.invariant-loop-row
invariant-loop-row l = (map row_in l.entries.items ≡ l.yielded) × AreNumbered (length l.entries.items) l.entries.items
