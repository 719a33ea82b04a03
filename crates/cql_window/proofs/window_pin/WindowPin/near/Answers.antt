use Rattle.std.proofs.Common.{◌-◌, arith, ap, ◌∙◌, length, drop, take}
use Rattle.cql_window.specs.Pin.{Pinned}
use Rattle.cql_window.specs.Span.{rows_of}
use Rattle.cql_window.proofs.Segments.{drop_second}
use Rattle.cql_window.proofs.window_pin.WindowPin.near.Goals as goal

pub returns-else-from-settled-clause-rows : goal.returns-else-from-settled-clause-rows
returns-else-from-settled-clause-rows c =
    let s = c.self.inside in
    let n = length c.near-else-from-settled.result.now in
    c.near-else-from-settled.ensures.rows
    ∙ ap (λ k. take n (drop (c.args.from - k) s.unseen)) c.len-settled.ensures.value
    ∙ ap (take n) (drop_second c.args.from s.content s.unseen (omega (arith, c.if-from-settled.false, c.len-settled.ensures.value)))
    ∙ ap (λ (p : Pinned). take n (drop c.args.from (rows_of p))) c.self.view_is
