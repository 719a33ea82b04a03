use Rattle.std.proofs.Common.{◌≡◌, ◌++◌, map}
use Rattle.std.specs.List.{filter}
use Rattle.cql_window.specs.Changes.{is_within}
use Rattle.cql_window.specs.Moments.{instant_of}
use Rattle.cql_window.specs.Window.{AreAscending}
use Rattle.cql_window.proofs.instants.push_moments.Given as goal

-- with those of the rows that are left it is the whole
abbrev pub invariant-loop-row : goal.invariant-loop-row
invariant-loop-row l =
    (goal.iterator-loop-row).can_next l.row-iterator ×
    (goal.iterator-loop-row).is_finite l.row-iterator ×
    AreAscending l.row-iterator ×
    (l.instants.items ++ filter (is_within l.from l.to) (map (instant_of l.moment) l.row-iterator) ≡ l.initial.instants.items ++ filter (is_within l.from l.to) (map (instant_of l.moment) l.rows))
