use Rattle.std.proofs.Common.{◌+◌, ◌-◌, ◌≤◌, ap, sym, subst, refl, arith, length, drop, length-drop}
use Rattle.std.proofs.lemmas.List.{take_all}
use Rattle.cql_window.specs.Bounds.{IsFront}
use Rattle.cql_window.specs.Span.{rows_of}
use Rattle.cql_window.specs.Window.{count_before}
use Rattle.cql_window.proofs.Ends.{before_le}
use Rattle.cql_window.proofs.Fronts.{front_within, front_rest, came_some, came_all}
use Rattle.cql_window.proofs.bounds.go_on.Goals.{Else-count-front}
use Rattle.cql_window.proofs.bounds.go_on.Goals as goal

within : (c : Else-count-front) → c.args.from + c.rows_before-count.result ≤ length (rows_of c.args.pin.now)
within c =
    omega (arith, front_within c.args.from c.args.front.now (rows_of c.args.pin.now) c.requires.front c.requires.from, c.rows_before-count.ensures, before_le c.args.end c.args.front.now)

pub overflow_add-from : goal.overflow_add-from
overflow_add-from c = omega (arith, within c, c.requires.few)

pub go_beyond-requires : goal.go_beyond-requires
go_beyond-requires c = record { from = within c; few = c.requires.few }

pub returns-then-count-front-clause-index : goal.returns-then-count-front-clause-index
returns-then-count-front-clause-index c =
    ap (λ n. c.args.from + n) (came_some c.args.end c.args.from c.rows_before-count.result c.args.front.now (rows_of c.args.pin.now) c.requires.front c.rows_before-count.ensures c.if-count-front.true)

pub returns-then-count-front-clause-front : goal.returns-then-count-front-clause-front
returns-then-count-front-clause-front c =
    let k = c.rows_before-count.result in
    let front = c.args.front.now in
    subst (λ l. IsFront (c.args.from + k) l (rows_of c.args.pin.now)) (sym (take_all (length front - k) (drop k front) (omega (arith, length-drop k front))))
    (front_rest c.args.from k front (rows_of c.args.pin.now) c.requires.front (omega (arith, c.if-count-front.true)))

pub returns-else-count-front-clause-index : goal.returns-else-count-front-clause-index
returns-else-count-front-clause-index c =
    let k = c.rows_before-count.result in
    let xs = rows_of c.args.pin.now in
    let sum = came_all c.args.end c.args.from k (count_before c.args.end (drop (c.args.from + k) xs)) c.args.front.now xs c.requires.front c.rows_before-count.ensures (omega (arith, c.if-count-front.false)) refl in
    omega (arith, c.go_beyond.ensures.index, sum)
