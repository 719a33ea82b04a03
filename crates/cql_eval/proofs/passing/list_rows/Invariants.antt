use Rattle.std.proofs.Common.{◌≡◌, ◌++◌}
use Rattle.cql_eval.specs.Projected.{projected_by}
use Rattle.cql_eval.specs.Shown.{rows_of}
use Rattle.cql_eval.proofs.passing.list_rows.Given as goal

-- what is listed and what is left are all
abbrev pub invariant-loop-element : goal.invariant-loop-element
invariant-loop-element l = record {
  next : goal.iterator-loop-element.can_next l.element-iterator;
  finite : goal.iterator-loop-element.is_finite l.element-iterator;
  listed : l.list.items ++ rows_of (projected_by l.walk l.element-iterator) ≡ rows_of (projected_by l.walk l.fn.rows);
}
