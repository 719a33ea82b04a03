use Rattle.std.proofs.Common.{◌+◌, ◌≤◌, ap, ◌∙◌, arith, length, take, length-append, length-drop, length-take}
use Rattle.cql_window.specs.Span.{rows_of}
use Rattle.cql_window.specs.Window.{count_before}
use Rattle.cql_window.proofs.Segments.{from_index}
use Rattle.cql_window.proofs.bounds.came_from.Goals as goal

pub new-requires : goal.new-requires
new-requires c =
    let all = length-append c.args.pin.now.content c.args.pin.now.unseen in
    let settled = ap length c.content.ensures.value in
    let unseen = ap length c.unseen.ensures.value in
    (omega (arith, all, settled, unseen, c.requires, c.len.ensures.value, c.len-2.ensures.value), omega (arith, all, settled, unseen, c.len.ensures.value, c.len-2.ensures.value))

pub came_before-requires : goal.came_before-requires
came_before-requires c =
    let to = c.len.result + c.len-2.result in
    let xs = rows_of c.args.pin.now in
    omega (arith, ap length c.new.ensures, length-drop c.args.from (take to xs), length-take to xs, c.len.ensures.small, c.len-2.ensures.small)

pub returns : goal.returns
returns c =
    let end : length (rows_of c.args.pin.now) ≤ c.len.result + c.len-2.result = omega (arith, length-append c.args.pin.now.content c.args.pin.now.unseen, ap length c.content.ensures.value, ap length c.unseen.ensures.value, c.len.ensures.value, c.len-2.ensures.value) in
    c.came_before.ensures ∙ ap (count_before c.args.end) (c.new.ensures ∙ from_index c.args.from (c.len.result + c.len-2.result) (rows_of c.args.pin.now) end)
