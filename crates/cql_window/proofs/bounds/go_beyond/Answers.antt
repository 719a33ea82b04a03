use Rattle.std.proofs.Common.{◌+◌, ◌≤◌, arith, length, drop, length-drop}
use Rattle.cql_window.specs.Span.{rows_of}
use Rattle.cql_window.proofs.Ends.{before_le}
use Rattle.cql_window.proofs.bounds.go_beyond.Goals.{After-came_from}
use Rattle.cql_window.proofs.bounds.go_beyond.Goals as goal

within : (c : After-came_from) → c.args.from + c.came_from.result ≤ length (rows_of c.args.pin.now)
within c =
    let xs = rows_of c.args.pin.now in
    omega (arith, c.came_from.ensures, before_le c.args.end (drop c.args.from xs), length-drop c.args.from xs, c.requires.from)

pub overflow_add-to : goal.overflow_add-to
overflow_add-to c = omega (arith, within c, c.requires.few)

pub front_at-requires : goal.front_at-requires
front_at-requires c = within c
