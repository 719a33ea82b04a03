use Rattle.std.proofs.Common.{◌+◌, drop, ap, ◌∙◌, arith, length-drop}
use Rattle.cql_window.proofs.Ends.{before_le}
use Rattle.cql_window.specs.Bounds.{end_in}
use Rattle.cql_window.specs.Window.{count_before}
use Rattle.cql_store.specs.Sequence.{shifted}
use Rattle.cql_store.proofs.Later.{counted_on, fit_counted}
use Rattle.cql_store.proofs.moves.counted_at.Goals as goal

pub rows_before-requires-clause-ascending : goal.rows_before-requires-clause-ascending
rows_before-requires-clause-ascending c = rw c.saturating_sub-counted.ensures (fit_counted c.args.rows.now (shifted c.args.gone c.args.stub.now) c.requires.sound)

pub overflow_add-result : goal.overflow_add-result
overflow_add-result c =
    omega (arith, c.saturating_sub-counted.ensures, c.rows_before.ensures.value, c.rows_before.ensures.small, before_le c.end_in-end.result (drop c.saturating_sub-counted.result c.args.rows.now), length-drop c.saturating_sub-counted.result c.args.rows.now, c.requires.sound.within)

pub returns-clause-value : goal.returns-clause-value
returns-clause-value c =
    let rows = c.args.rows.now in
    let s = c.args.stub.now in
    ap (λ n. c.saturating_sub-counted.result + n) (c.rows_before.ensures.value ∙ ap (λ e. count_before e (drop c.saturating_sub-counted.result rows)) c.end_in-end.ensures)
    ∙ ap (λ k. k + count_before (end_in s.window c.args.to) (drop k rows)) c.saturating_sub-counted.ensures
    ∙ counted_on rows c.args.to (shifted c.args.gone s) c.requires.sound c.requires.later

pub returns-clause-within : goal.returns-clause-within
returns-clause-within c =
    omega (arith, c.saturating_sub-counted.ensures, c.rows_before.ensures.value, c.rows_before.ensures.small, before_le c.end_in-end.result (drop c.saturating_sub-counted.result c.args.rows.now), length-drop c.saturating_sub-counted.result c.args.rows.now, c.requires.sound.within)
