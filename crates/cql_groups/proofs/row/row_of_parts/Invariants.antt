use Rattle.std.proofs.Common.{◌≡◌, ◌≤◌, length, map, drop}
use Rattle.std.specs.Prelude.{vec_len, vec_capacity}
use Rattle.cql_algebra.specs.Shape.{all_of}
use Rattle.cql_groups.specs.Layouts.{source_value, row_of_parts}
use Rattle.cql_plain.proofs.Behind.{behind}
use Rattle.cql_groups.proofs.row.row_of_parts.Given as goal

-- the values so far and the sources that are left, and room for theirs
abbrev pub invariant-loop-source : goal.invariant-loop-source
invariant-loop-source l = record {
  row : behind l.values.items (all_of (map (source_value l.size l.sample l.parts) (drop l.source-index l.sources))) ≡ row_of_parts l.sources l.size l.sample l.parts;
  made : vec_len l.values ≡ l.source-index;
  room : length l.sources ≤ vec_capacity l.values;
}
